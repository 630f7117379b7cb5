-- A step with its counts: the pads that it passes, and, by the change request A.3, the names that it begins to read, which in a struct are field IDs.
-- Assumes nothing.
use Rattle.std.specs.Prelude.{ℕ, ◌+◌, Bool, true, List, length}
use Rattle.numbers.specs.Outcome.{Outcome, gives, refuses, pick, outside_of}
use Rattle.framing.specs.Limits.{out_of_range}
use Rattle.stepping.specs.Items.{Item, finish, marker, value, field}
use Rattle.stepping.specs.Answers.{Found, found}
use Rattle.stepping.specs.declared.cursor.Cursor.{Cursor}
use Rattle.stepping.specs.declared.cursor.Rules.{Rules}
use Rattle.stepping.specs.declared.cursor.Rules.TheVariants.{Fields}

pub record Counted : Type 0 where
  pub answer : Outcome Item
  pub pads : ℕ
  pub names : ℕ

-- a refusal before anything is read
abbrev pub unbegun : ℕ → Counted
unbegun number = record { answer = refuses number 0; pads = 0; names = 0 }

-- "and one more unless it ended ..": of what a step answers that was not refused before any ID
abbrev pub one_more : Outcome Item → ℕ
one_more (gives (finish p)) = 0
one_more (gives (marker a major minor e)) = 1
one_more (gives (value v)) = 1
one_more (gives (field id a v)) = 1
one_more (refuses number position) = 1

-- ".. or was refused before any ID": with 68, a limit that is none, or 50, a part that is none
abbrev pub unread : ℕ → List ℕ → Cursor → Bool
unread limit s c = pick (out_of_range limit) true (outside_of s c.at c.end)

-- "the pads skipped, and one more ..": of a step that finds f
abbrev pub counted_by : Bool → Found → Counted
counted_by none f =
    record { answer = f.answer; pads = length f.pads; names = pick none 0 (length f.pads + one_more f.answer) }

unfoldable pub counted : ℕ → Rules → List ℕ → Cursor → Counted
counted limit rules s c = counted_by (unread limit s c) (found limit rules s c)

-- "how many IDs that step began to read", of the struct step at a cursor
abbrev pub ids_begun : ℕ → List ℕ → Cursor → ℕ
ids_begun limit s c = (counted limit Fields s c).names
