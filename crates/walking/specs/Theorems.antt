-- What holds of the walk's calls. The proofs: `exact` and `never_outside` of proofs/Exact.antt, `length_bound` of proofs/Ending.antt, `limits-range` of
-- proofs/Depths.antt, `visit_depth` of proofs/Seeking.antt.
-- Assumes nothing.
use Rattle.std.specs.Prelude.{ℕ, suc, ◌≤◌, ◌≡◌, false, List, length, take}
use Rattle.numbers.specs.Outcome.{refuses}
use Rattle.walking.specs.Walk.{limits_out, whole_walk}
use Rattle.walking.specs.Calls.{start_of, visit_of, calls, state_after}
use Rattle.walking.specs.declared.walk.Walk.{Walk}

-- Of every two limits and every map: the calls from its start are the whole walk, in its order, up to the end or the first refusal.
abbrev pub Exact : Type 0
Exact =
    (limit deepest : ℕ) (s : List ℕ) (n : ℕ) → calls limit deepest n s (start_of s) ≡ take n (whole_walk limit deepest s)

-- From the start no call answers 50, however many there are.
abbrev pub NeverOutside : Type 0
NeverOutside =
    (limit deepest : ℕ) (s : List ℕ) (n p : ℕ)
    → (visit_of limit deepest s (state_after limit deepest n s (start_of s))).answer ≡ refuses 50 p → ⊥

-- A walk has one answer for each byte of the map at most, and the last.
abbrev pub LengthBound : Type 0
LengthBound = (limit deepest : ℕ) (s : List ℕ) → length (whole_walk limit deepest s) ≤ suc (length s)

-- The ranges by their numbers, which are numbers here and no names, so that others in the definitions are refused.
pub record RangesOf (limit deepest : ℕ) : Type 0 where
  pub inside : 255 ≤ limit → limit ≤ 65535 → 1 ≤ deepest → deepest ≤ 64 → limits_out limit deepest ≡ false
  pub limit_low : limits_out limit deepest ≡ false → 255 ≤ limit
  pub limit_high : limits_out limit deepest ≡ false → limit ≤ 65535
  pub depth_low : limits_out limit deepest ≡ false → 1 ≤ deepest
  pub depth_high : limits_out limit deepest ≡ false → deepest ≤ 64

abbrev pub LimitsRange : Type 0
LimitsRange = (limit deepest : ℕ) → RangesOf limit deepest

-- "A non-null container at [the depth given] is handed out, then 37 follows": in no state is what is met deeper than that.
abbrev pub DepthBound : Type 0
DepthBound = (limit deepest : ℕ) (s : List ℕ) (w : Walk) → (visit_of limit deepest s w).depth ≤ deepest
