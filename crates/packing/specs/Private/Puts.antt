-- What is put into the buffer that a map is packed into.
-- Assumes nothing.
use Rattle.std.specs.Prelude.{ℕ, ◌+◌, ◌≡◌, ◌≤◌, List, length}
use Rattle.std.proofs.lemmas.List.Edits.{sets}
use Rattle.packing.specs.declared.output.Output.{Output}

-- so many bytes more fit
abbrev pub HasRoom : Output → ℕ → Type 0
HasRoom output n = output.next + n ≤ length output.out.now

-- these bytes are put: they stand in the same buffer where the next byte went, and the next goes behind them
abbrev pub Puts : Output → List ℕ → Output → Type 0
Puts before bytes after =
    (after.out.now ≡ sets before.out.now before.next bytes)
    × (after.next ≡ before.next + length bytes)
    × (length after.out.now ≡ length before.out.now)
    × (after.out.ghost_name ≡ before.out.ghost_name)
