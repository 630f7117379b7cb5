-- The change request A.9, "Limits by title": the most bytes that a wrapper's annotations may have is given with each call.
-- Assumes nothing.
use Rattle.std.specs.Prelude.{ℕ, ◌≤◌, ◌≡◌, Bool, true, false, ltb}
use Rattle.numbers.specs.Outcome.{Outcome, pick, refuse_if}

-- "Annotation bytes (255 to 65535)"
abbrev pub least_limit : ℕ
least_limit = 255

abbrev pub most_limit : ℕ
most_limit = 65535

unfoldable pub out_of_range : ℕ → Bool
out_of_range limit = pick (ltb limit least_limit) true (ltb most_limit limit)

-- 68 "a parameter outside its range", "before 50, position 0": the first test of an entry that takes the limit. What is behind it is defined for every number.
abbrev pub limited : {A : Type 0} → ℕ → Outcome A → Outcome A
limited limit o = refuse_if (out_of_range limit) 68 0 o

-- The range by its two numbers, which are numbers here and no names, so that others in the definitions are refused. Proved in proofs/Ranges.antt.
pub record RangeOf (limit : ℕ) : Type 0 where
  pub inside : 255 ≤ limit → limit ≤ 65535 → out_of_range limit ≡ false
  pub low : out_of_range limit ≡ false → 255 ≤ limit
  pub high : out_of_range limit ≡ false → limit ≤ 65535

abbrev pub LimitRange : Type 0
LimitRange = (limit : ℕ) → RangeOf limit
