-- What a call returns that puts the words of a reading: the number of its answer, 51 first.
-- Assumes nothing.
use Prim.Native.Nat.{ℕ}
use mathlib.Core.Path.{◌≡◌}
use mathlib.Core.List.{List}
use Rattle.numbers.specs.Outcome.{Outcome}
use Rattle.framing.specs.Answers.{Annotated}
use Rattle.values.specs.Scalars.{value_in, step_in, read_scalar, read_with_value}
use Rattle.records.specs.Buffer.{number_of, number_in, returned_by, returned}
use Rattle.records.specs.FirstWords.{Number}
use Rattle.records.specs.Words.{annotation_words, body_words, reading_words, number_words}
use Rattle.records.proofs.Numbers.{annotation_number, entered_number, reading_number, number_number, returned-by}
use Rattle.readings.specs.Exported.{exported_body}

pub body_number : (limit : ℕ) (s : List ℕ) (start end at : ℕ) → number_in (body_words (exported_body limit s start end at)) ≡ number_of (step_in limit s start end at)
unfolding exported_body step_in
body_number limit s start end at = entered_number (value_in limit s start end at)

pub annotation_returned : (at : ℕ) (o : Outcome Annotated) (old : List ℕ) → returned_by (annotation_words at o) old ≡ returned old o
annotation_returned at o old = returned-by 9 (annotation_words at o) old o (annotation_number at o)

pub number_returned : (at : ℕ) (o : Outcome Number) (old : List ℕ) → returned_by (number_words at o) old ≡ returned old o
number_returned at o old = returned-by 9 (number_words at o) old o (number_number at o)

pub body_returned : (limit : ℕ) (s : List ℕ) (start end at : ℕ) (old : List ℕ) → returned_by (body_words (exported_body limit s start end at)) old ≡ returned old (step_in limit s start end at)
body_returned limit s start end at old =
    returned-by 9 (body_words (exported_body limit s start end at)) old (step_in limit s start end at) (body_number limit s start end at)

pub reading_returned : (limit : ℕ) (s : List ℕ) (start end at : ℕ) (old : List ℕ) → returned_by (reading_words (read_with_value limit s start end at)) old ≡ returned old (read_scalar limit s start end at)
reading_returned limit s start end at old =
    returned-by 9 (reading_words (read_with_value limit s start end at)) old (read_scalar limit s start end at) (reading_number limit s start end at)
