-- The ranges of the walk's two limits, by their numbers, and what a test of them lets through.
-- Assumes nothing.
use Prim.Native.Nat.{ℕ, ◌≤◌}
use native.Mathlib.Omega.{arith}
use borrow.Author.Tests.{ltb-false, le-ltb}
use mathlib.Core.Path.{◌≡◌}
use mathlib.Core.Bool.{true, false, true≢false}
use lib.Dec.{ltb}
use Rattle.numbers.specs.Outcome.{pick}
use Rattle.numbers.proofs.Outcomes.{by_test}
use Rattle.framing.specs.Limits.{out_of_range}
use Rattle.framing.proofs.Ranges.{limit-range}
use Rattle.walking.specs.Walk.{least_depth, most_depth, limits_out}
use Rattle.walking.specs.Theorems.{LimitsRange}

module _ (limit deepest : ℕ) where
  -- the limit of annotation bytes is in its range, and so is the depth
  pub in_limit : limits_out limit deepest ≡ false → out_of_range limit ≡ false
  unfolding limits_out
  in_limit = by_test (λ b. b ≡ false → out_of_range limit ≡ false) (out_of_range limit) (λ _ e. absurd (true≢false e)) (λ h _. h)

  depth_test : limits_out limit deepest ≡ false → pick (ltb deepest least_depth) true (ltb most_depth deepest) ≡ false
  unfolding limits_out
  depth_test =
      by_test (λ b. b ≡ false → pick (ltb deepest least_depth) true (ltb most_depth deepest) ≡ false) (out_of_range limit) (λ _ e. absurd (true≢false e)) (λ _ e. e)

  pub depth_some : limits_out limit deepest ≡ false → least_depth ≤ deepest
  depth_some g =
      by_test (λ b. b ≡ false → least_depth ≤ deepest) (ltb deepest least_depth) (λ _ e. absurd (true≢false e)) (λ h _. ltb-false deepest least_depth h) (depth_test g)

  pub depth_room : limits_out limit deepest ≡ false → deepest ≤ most_depth
  depth_room g =
      by_test (λ b. b ≡ false → deepest ≤ most_depth) (ltb deepest least_depth) (λ _ e. absurd (true≢false e)) (λ _ e. ltb-false most_depth deepest e) (depth_test g)

pub limits-range : LimitsRange
unfolding limits_out
limits-range limit deepest =
    record {
      inside = λ a b c d. rw ((limit-range limit).inside a b, le-ltb deepest least_depth (omega arith), le-ltb most_depth deepest (omega arith));
      limit_low = λ g. (limit-range limit).low (in_limit limit deepest g);
      limit_high = λ g. (limit-range limit).high (in_limit limit deepest g);
      depth_low = λ g. omega (arith, depth_some limit deepest g);
      depth_high = λ g. omega (arith, depth_room limit deepest g);
    }
