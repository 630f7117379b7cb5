-- The records of the change requests A.11 and A.12.
-- Assumes nothing.
use Rattle.std.specs.Prelude.{ℕ, List, length, ltb}
use Rattle.numbers.specs.Outcome.{Outcome, pick}
use Rattle.packing.specs.Answers.{buffer_of}
use Rattle.records.specs.Buffer.{record_size}
use Rattle.records.specs.Words.{bytes_words}

-- A.11: "kind 15, 0, 0, size, zeros"
abbrev pub size_words : Outcome ℕ → List ℕ
size_words o = bytes_words 15 o

-- A.12: "kind 16, 0, 0, size, zeros"
abbrev pub pack_words : Outcome ℕ → List ℕ
pack_words o = bytes_words 16 o

-- what a call leaves in the buffer that is lent for the packed map: with 51, of the buffer `out`, nothing is written
unfoldable pub packed_in : ℕ → ℕ → List ℕ → List ℕ → List ℕ → List ℕ
packed_in limit deepest s old out = pick (ltb (length out) record_size) old (buffer_of limit deepest s old)
