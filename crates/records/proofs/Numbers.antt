-- The number that a record tells is that of its answer: a refusal's, and 0 of whatever else.
-- Assumes nothing.
use Prim.Native.Nat.{ℕ, ◌*◌}
use mathlib.Core.Path.{◌≡◌, refl, ◌∙◌, ap}
use mathlib.Core.List.{List}
use lib.ListN.{length}
use lib.Dec.{eqb, ltb}
use Rattle.numbers.specs.Outcome.{Outcome, gives, refuses, and_then, pick}
use Rattle.numbers.proofs.Outcomes.{by_case}
use Rattle.framing.specs.Spans.{Spans}
use Rattle.framing.specs.Answers.{Annotated, ident, finished}
use Rattle.bodies.specs.Decimal.{Split}
use Rattle.stepping.specs.Items.{Item, finish, marker, value, field}
use Rattle.values.specs.Scalars.{value_in, Opened, opened, Scalar, scalar_of, read_scalar, with_value, read_with_value}
use Rattle.values.specs.Timestamps.{Dated, stamped, other}
use Rattle.records.specs.FirstWords.{entered_at, enter, Number}
use Rattle.records.specs.Words.{words, annotation_words, body_words, scalar_words, reading_words, number_words, decimal_words, timestamp_words, check_words, bytes_words}
use Rattle.records.specs.Buffer.{word_size, number_of, answered, number_in, words_in, words_returned}

pub step_number : (o : Outcome Item) → number_in (words o) ≡ number_of o
unfolding number_in
step_number (gives (finish p)) = refl
step_number (gives (marker a x y e)) = refl
step_number (gives (value v)) = refl
step_number (gives (field id a v)) = refl
step_number (refuses n p) = refl

pub annotation_number : (at : ℕ) (o : Outcome Annotated) → number_in (annotation_words at o) ≡ number_of o
unfolding number_in
annotation_number at (gives (ident id next)) = refl
annotation_number at (gives finished) = refl
annotation_number at (refuses n p) = refl

opened_number : (at : ℕ) (o : Outcome Opened) → number_in (body_words (and_then o (entered_at at))) ≡ number_of o
unfolding number_in
opened_number at (gives b) = refl
opened_number at (refuses n p) = refl

pub entered_number : (o : Outcome Spans) → number_in (body_words (and_then o enter)) ≡ number_of (and_then o opened)
unfolding number_in
entered_number (gives v) = opened_number v.descriptor (opened v)
entered_number (refuses n p) = refl

scalar_number : (v : Spans) (o : Outcome Scalar) → number_in (scalar_words v o) ≡ number_of o
unfolding number_in
scalar_number v (gives x) = refl
scalar_number v (refuses n p) = refl

value_number : (s : List ℕ) (o : Outcome Spans) → number_in (reading_words (and_then o (with_value s))) ≡ number_of (and_then o (scalar_of s))
unfolding number_in
value_number s (gives v) = scalar_number v (scalar_of s v)
value_number s (refuses n p) = refl

pub reading_number : (limit : ℕ) (s : List ℕ) (start end at : ℕ) → number_in (reading_words (read_with_value limit s start end at)) ≡ number_of (read_scalar limit s start end at)
unfolding read_with_value read_scalar
reading_number limit s start end at = value_number s (value_in limit s start end at)

pub number_number : (at : ℕ) (o : Outcome Number) → number_in (number_words at o) ≡ number_of o
unfolding number_in
number_number at (gives n) = refl
number_number at (refuses n p) = refl

pub decimal_number : (start : ℕ) (o : Outcome Split) → number_in (decimal_words start o) ≡ number_of o
unfolding number_in
decimal_number start (gives d) = refl
decimal_number start (refuses n p) = refl

pub timestamp_number : (o : Outcome Dated) → number_in (timestamp_words o) ≡ number_of o
unfolding number_in
timestamp_number (gives (stamped d t)) = refl
timestamp_number (gives (other v x)) = refl
timestamp_number (refuses n p) = refl

pub check-number : (o : Outcome (List ℕ)) → number_in (check_words o) ≡ number_of o
unfolding number_in
check-number (gives c) = refl
check-number (refuses n p) = refl

pub bytes_number : (kind : ℕ) (o : Outcome ℕ) → number_in (bytes_words kind o) ≡ number_of o
unfolding number_in
bytes_number kind (gives n) = by_case (eqb kind 9) (λ e. rw e) (λ e. rw e)
bytes_number kind (refuses n p) = refl

-- what a call that puts an answer's words returns
pub returned-by : {A : Type 0} (n : ℕ) (ws old : List ℕ) (o : Outcome A) → number_in ws ≡ number_of o → words_returned n ws old ≡ answered n old o
unfolding words_returned answered
returned-by n ws old o e = ap (pick (ltb (length old) (n * word_size)) 51) e

-- the same of a call that puts an answer's words, whatever they are called
pub put_answer : {A : Type 0} (n : ℕ) (vs old : List ℕ) (o : Outcome A) {r : ℕ} {new ws : List ℕ} → number_in vs ≡ number_of o → ws ≡ vs → record { value : r ≡ words_returned n ws old; out_after : new ≡ words_in n ws old } → record { value : r ≡ answered n old o; out_after : new ≡ words_in n vs old }
put_answer n vs old o k e h = record {
  value = h.value ∙ ap (λ (w : List ℕ). words_returned n w old) e ∙ returned-by n vs old o k;
  out_after = h.out_after ∙ ap (λ (w : List ℕ). words_in n w old) e;
}
