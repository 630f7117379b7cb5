-- Of every answer the first 64 bytes of its record are those of the scope paper's eight words: the ninth word stands behind them.
-- Assumes nothing.
use Prim.Native.Nat.{ℕ, ◌*◌, ◌-◌}
use borrow.Author.Tests.{le-ltb}
use mathlib.Core.Path.{◌≡◌, refl, ◌∙◌, sym, ap}
use mathlib.Core.List.{List, [], ◌∷◌, ◌++◌, append_assoc}
use lib.ListN.{length, take, drop}
use lib.Seq.{take-append_seam}
use Rattle.numbers.specs.Outcome.{Outcome, gives, refuses}
use Rattle.framing.specs.Answers.{Annotated, ident, finished}
use Rattle.stepping.specs.Items.{Item, finish, marker, value, field}
use Rattle.values.specs.Scalars.{ReadValue, Scalar, span_of}
use Rattle.framing.specs.Spans.{Spans}
use Rattle.records.specs.Buffer.{word_size, bytes_of, record_size, words_in}
use Rattle.records.specs.FirstWords.{Entered, Number}
use Rattle.records.specs.FirstWords as first
use Rattle.records.specs.Words.{with_length, item_length, words, annotation_words, body_words, scalar_words, reading_words, number_words}
use Rattle.records.specs.Theorems.{first_size, BeginsWith, FirstBytes}
use Rattle.records.proofs.Storing.{length_bytes, bytes_append}

-- what a record of the words ws begins with, whatever stands behind it
abbrev Begins : List ℕ → List ℕ → Type 0
Begins ws vs = (rest : List ℕ) → take first_size (bytes_of ws ++ rest) ≡ bytes_of vs

-- one word behind others
begins : (ws : List ℕ) (n : ℕ) → word_size * length ws ≡ first_size → Begins (with_length ws n) ws
begins ws n e rest =
    let k : length (bytes_of ws) ≡ first_size = length_bytes ws ∙ e in
    ap (λ (l : List ℕ). take first_size (l ++ rest)) (bytes_append ws (n ∷ []))
    ∙ ap (take first_size) (append_assoc (bytes_of ws) (bytes_of (n ∷ [])) rest)
    ∙ sym (ap (λ (m : ℕ). take m (bytes_of ws ++ (bytes_of (n ∷ []) ++ rest))) k)
    ∙ take-append_seam (bytes_of ws) (bytes_of (n ∷ []) ++ rest)

in_buffer : (ws vs : List ℕ) → Begins ws vs → BeginsWith ws vs
unfolding words_in
in_buffer ws vs b old h = rw (le-ltb (length old) record_size h) (b (drop record_size old))

pub step_begins : (o : Outcome Item) → Begins (words o) (first.words o)
step_begins (gives (finish p)) = begins (first.end_words p) 0 refl
step_begins (gives (marker a major minor e)) = begins (first.item_words (marker a major minor e)) 0 refl
step_begins (gives (value v)) = begins (first.item_words (value v)) (item_length (value v)) refl
step_begins (gives (field id a v)) = begins (first.item_words (field id a v)) (item_length (field id a v)) refl
step_begins (refuses number position) = begins (first.refused_words number position) 0 refl

annotation_begins : (at : ℕ) (o : Outcome Annotated) → Begins (annotation_words at o) (first.annotation_words at o)
annotation_begins at (gives (ident id next)) = begins (first.annotation_words at (gives (ident id next))) 0 refl
annotation_begins at (gives finished) = begins (first.end_words at) 0 refl
annotation_begins at (refuses number position) = begins (first.refused_words number position) 0 refl

body_begins : (o : Outcome Entered) → Begins (body_words o) (first.body_words o)
body_begins (gives e) = begins (first.body_words (gives e)) (e.body.end - e.body.body) refl
body_begins (refuses number position) = begins (first.refused_words number position) 0 refl

scalar_begins : (v : Spans) (o : Outcome Scalar) → Begins (scalar_words v o) (first.scalar_words v o)
scalar_begins v (gives x) = begins (first.scalar_words v (gives x)) ((span_of (gives x)).end - (span_of (gives x)).start) refl
scalar_begins v (refuses number position) = begins (first.refused_words number position) 0 refl

reading_begins : (o : Outcome ReadValue) → Begins (reading_words o) (first.reading_words o)
reading_begins (gives r) = scalar_begins r.value r.scalar
reading_begins (refuses number position) = begins (first.refused_words number position) 0 refl

number_begins : (at : ℕ) (o : Outcome Number) → Begins (number_words at o) (first.number_words at o)
number_begins at (gives n) = begins (first.number_words at (gives n)) 0 refl
number_begins at (refuses number position) = begins (first.refused_words number position) 0 refl

pub first-bytes : FirstBytes
first-bytes =
    record {
      steps = λ o. in_buffer (words o) (first.words o) (step_begins o);
      annotations = λ at o. in_buffer (annotation_words at o) (first.annotation_words at o) (annotation_begins at o);
      bodies = λ o. in_buffer (body_words o) (first.body_words o) (body_begins o);
      readings = λ o. in_buffer (reading_words o) (first.reading_words o) (reading_begins o);
      numbers = λ at o. in_buffer (number_words at o) (first.number_words at o) (number_begins at o);
    }
