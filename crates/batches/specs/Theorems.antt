-- What holds of lists of exported steps. The proofs: `runs_of_calls` of proofs/RunsOfCalls.antt, `records-begin` of proofs/RecordsBegin.antt.
-- Assumes nothing.
use Rattle.std.specs.Prelude.{ℕ, ◌*◌, ◌≤◌, ◌≡◌, List, ◌∷◌, ◌++◌, map, length, take, drop}
use Rattle.numbers.specs.Outcome.{Outcome}
use Rattle.stepping.specs.Items.{Item}
use Rattle.stepping.specs.Answers.{Stepped}
use Rattle.stepping.specs.Kinds.{rules_of}
use Rattle.stepping.specs.Runs.{cursor, Answers, Run}
use Rattle.records.specs.Buffer.{bytes_of, record_size}
use Rattle.records.specs.FirstWords as first
use Rattle.records.specs.Theorems.{first_size}
use Rattle.batches.specs.Steps.{exported_run, records_in}

abbrev pub answer_of : Stepped → Outcome Item
answer_of r = r.answer

-- The answers of an export of many steps, with any limit, on a part that starts at or before the position and by a kind that there is, are the answers of a
-- run of the theorems on runs: as many calls of one step, each with the cursor that the call before left.
abbrev pub RunsOfCalls : Type 0
RunsOfCalls =
    (limit : ℕ) (s : List ℕ) (start end position kind n : ℕ) → start ≤ position → kind ≤ 2
    → (rs : List Stepped) × Run (Answers limit (rules_of kind) s) (cursor position end) rs × (map answer_of rs ≡ exported_run limit n s start end position kind)

-- A.6, "The first eight words keep their meaning", of many steps: the record behind those of the answers before it begins with the bytes of the scope paper's
-- words.
abbrev pub RecordsBegin : Type 0
RecordsBegin =
    (before after : List (Outcome Item)) (o : Outcome Item) (old : List ℕ) → record_size ≤ length old
    → take first_size (drop (record_size * length before) (records_in (before ++ (o ∷ after)) old)) ≡ bytes_of (first.words o)
