-- Bytes of a slice by their positions.
-- Assumes nothing.
use Rattle.std.specs.Prelude.{ℕ, ◌≤◌, ◌<◌, ◌≡◌, List, get_or}
use Rattle.std.proofs.Math.Seq.{slice}

-- the bytes a..b of a slice
abbrev pub part : List ℕ → ℕ → ℕ → List ℕ
part s a b = slice a b s

-- two slices have the same bytes at a..b
abbrev pub Same : List ℕ → List ℕ → ℕ → ℕ → Type 0
Same s t a b = (i : ℕ) → a ≤ i → i < b → get_or s i 0 ≡ get_or t i 0
