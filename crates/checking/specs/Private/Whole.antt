-- The check of a part with as many bytes as it has.
-- Assumes nothing.
use Rattle.std.specs.Prelude.{ℕ, ◌-◌, List}
use Rattle.checking.specs.Check.{Parts, part_check}

unfoldable pub full : ℕ → List ℕ → Parts
full limit s rules room hi at c = part_check limit (hi - at) s rules room hi at c
