-- The scope paper's "Scalars": "magnitudes without leading zero bytes".
-- Assumes nothing.
use Rattle.std.specs.Prelude.{ℕ, zero, suc, ◌-◌, List, get_or, eqb}
use Rattle.numbers.specs.Outcome.{pick, outside_of}

-- the first place among the n bytes from `at` on whose byte is not 0, and their end where there is none
unfoldable pub nonzero_among : List ℕ → ℕ → ℕ → ℕ
nonzero_among s at zero = at
nonzero_among s at (suc n) = pick (eqb (get_or s at 0) 0) (nonzero_among s (suc at) n) at

-- where the magnitude at..end begins; `at` where at..end is no part of the slice, which callers test before
unfoldable pub significant_from : List ℕ → ℕ → ℕ → ℕ
significant_from s at end = pick (outside_of s at end) at (nonzero_among s at (end - at))
