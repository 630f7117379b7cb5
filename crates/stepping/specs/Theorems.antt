-- What holds of whole runs on one map. The proofs: `tiling` and `runs` of proofs/Tiling.antt.
-- Assumes nothing.
use Rattle.std.specs.Prelude.{ℕ, ◌≡◌, List, length}
use Rattle.stepping.specs.Answers.{Stepped}
use Rattle.stepping.specs.Runs.{cursor, Answers, Run, Tiled}
use Rattle.stepping.specs.declared.cursor.Cursor.{Cursor}
use Rattle.stepping.specs.declared.cursor.Rules.{Rules}

-- Demand 3, first half: of every limit, every map, every part of it, every rule set and every list of calls, refused ones and those after the end included:
-- what is handed out, with the pads skipped before it, tiles the part.
abbrev pub Tiling : Type 0
Tiling =
    (limit : ℕ) (rules : Rules) (s : List ℕ) (lo hi : ℕ) (rs : List Stepped)
    → Run (Answers limit rules s) (cursor lo hi) rs → Tiled limit rules s lo hi rs

-- There is a run of every length from every cursor, so that nothing is said of nothing.
abbrev pub RunsExist : Type 0
RunsExist =
    (limit : ℕ) (rules : Rules) (s : List ℕ) (n : ℕ) (c : Cursor) → (rs : List Stepped) × Run (Answers limit rules s) c rs × (length rs ≡ n)
