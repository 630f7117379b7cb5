-- The range of the limit of annotation bytes, by its two numbers, and what a test of it lets through.
-- Assumes nothing.
use Prim.Native.Nat.{ℕ, ◌≤◌, ◌<◌}
use native.Mathlib.Omega.{arith}
use borrow.Author.Tests.{ltb-true, ltb-false, le-ltb}
use mathlib.Core.Path.{◌≡◌}
use mathlib.Core.Bool.{true, false, true≢false}
use mathlib.Core.Logic.{◌⊎◌, inl, inr}
use lib.Dec.{ltb}
use Rattle.numbers.specs.Outcome.{Outcome}
use Rattle.numbers.proofs.Outcomes.{by_test}
use Rattle.framing.specs.Limits.{least_limit, most_limit, out_of_range, limited, LimitRange}

pub limit-range : LimitRange
unfolding out_of_range
limit-range limit =
    record {
      inside = λ h k. rw (le-ltb limit least_limit (omega arith), le-ltb most_limit limit (omega arith));
      low = by_test (λ b. b ≡ false → 255 ≤ limit) (ltb limit least_limit) (λ _ e. absurd (true≢false e)) (λ h _. omega (arith, ltb-false limit least_limit h));
      high = by_test (λ b. b ≡ false → limit ≤ 65535) (ltb limit least_limit) (λ _ e. absurd (true≢false e)) (λ _ e. omega (arith, ltb-false most_limit limit e));
    }

-- a limit outside its range is too small or too large
pub out_cases : (limit : ℕ) → out_of_range limit ≡ true → (limit < 255) ⊎ (65535 < limit)
unfolding out_of_range
out_cases limit =
    by_test (λ b. b ≡ true → (limit < 255) ⊎ (65535 < limit)) (ltb limit least_limit) (λ h _. inl (omega (arith, ltb-true limit least_limit h))) (λ _ e. inr (omega (arith, ltb-true most_limit limit e)))

-- with a limit in its range an entry answers what is behind the test
pub in-range : {A : Type 0} (limit : ℕ) (o : Outcome A) → out_of_range limit ≡ false → limited limit o ≡ o
in-range limit o h = rw h
