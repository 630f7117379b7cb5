-- What A.6 keeps of a record. The proof: `first-bytes` of proofs/FirstBytes.antt.
-- Assumes nothing.
use Rattle.std.specs.Prelude.{ℕ, ◌≤◌, ◌≡◌, List, length, take}
use Rattle.numbers.specs.Outcome.{Outcome}
use Rattle.framing.specs.Answers.{Annotated}
use Rattle.stepping.specs.Items.{Item}
use Rattle.values.specs.Scalars.{ReadValue}
use Rattle.records.specs.Buffer.{bytes_of, record_size, record_in}
use Rattle.records.specs.FirstWords.{Entered, Number}
use Rattle.records.specs.FirstWords as first
use Rattle.records.specs.Words.{words, annotation_words, body_words, reading_words, number_words}

-- the bytes of a record of the scope paper: "they fill 64 bytes"
abbrev pub first_size : ℕ
first_size = 64

-- a record of the words ws begins with the bytes of the words vs, in every buffer that has room for it
abbrev pub BeginsWith : List ℕ → List ℕ → Type 0
BeginsWith ws vs = (old : List ℕ) → record_size ≤ length old → take first_size (record_in ws old) ≡ bytes_of vs

-- "The first eight words keep their meaning": the first 64 bytes of every record, of whatever answer, are the scope paper's.
pub record FirstBytes : Type 0 where
  pub steps : (o : Outcome Item) → BeginsWith (words o) (first.words o)
  pub annotations : (at : ℕ) (o : Outcome Annotated) → BeginsWith (annotation_words at o) (first.annotation_words at o)
  pub bodies : (o : Outcome Entered) → BeginsWith (body_words o) (first.body_words o)
  pub readings : (o : Outcome ReadValue) → BeginsWith (reading_words o) (first.reading_words o)
  pub numbers : (at : ℕ) (o : Outcome Number) → BeginsWith (number_words at o) (first.number_words at o)
