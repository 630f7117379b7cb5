-- The count of IDs, by the bytes: an ID is begun where each pad that the step passes starts, and where what stands behind them starts, unless that is the
-- part's end. The theorems are proved in proofs/Meanings.antt.
-- Assumes nothing.
use Rattle.std.specs.Prelude.{ℕ, ◌+◌, ◌≡◌, true, false, ◌⊎◌, List, length, ltb}
use Rattle.numbers.specs.Outcome.{pick, outside_of}
use Rattle.framing.specs.Limits.{out_of_range}
use Rattle.stepping.specs.Answers.{found}
use Rattle.stepping.specs.Meaning.{Skips}
use Rattle.stepping.specs.declared.cursor.Cursor.{Cursor}
use Rattle.stepping.specs.declared.cursor.Rules.TheVariants.{Fields}
use Rattle.counting.specs.Counted.{ids_begun}

abbrev pub IdsSound : Type 0
IdsSound =
    (limit : ℕ) (s : List ℕ) (c : Cursor) → out_of_range limit ≡ false → outside_of s c.at c.end ≡ false
    → (z : ℕ) × Skips Fields s c.end c.at (found limit Fields s c).pads z
    × (ids_begun limit s c ≡ length (found limit Fields s c).pads + pick (ltb z c.end) 1 0)

-- "refused before any ID": with 68 or 50
abbrev pub NoIdsUnread : Type 0
NoIdsUnread = (limit : ℕ) (s : List ℕ) (c : Cursor) → (out_of_range limit ≡ true) ⊎ (outside_of s c.at c.end ≡ true) → ids_begun limit s c ≡ 0
