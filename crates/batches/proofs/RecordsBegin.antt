-- `records-begin`: the records before it have a record's size each, so that it begins behind them.
-- Assumes nothing.
use Prim.Native.Nat.{ℕ, ◌*◌}
use native.Mathlib.Omega.{arith}
use borrow.Author.Tests.{le-ltb}
use mathlib.Core.Path.{◌≡◌, refl, ◌∙◌, sym, ap}
use mathlib.Core.List.{List, [], ◌∷◌, ◌++◌, append_assoc}
use lib.ListN.{length, take, drop}
use lib.Seq.{drop-append_seam}
use Rattle.numbers.specs.Outcome.{Outcome}
use Rattle.stepping.specs.Items.{Item}
use Rattle.records.specs.Buffer.{bytes_of, record_size}
use Rattle.records.specs.Theorems.{first_size}
use Rattle.records.specs.Words.{words}
use Rattle.records.proofs.Storing.{length_bytes, bytes_append}
use Rattle.records.proofs.FirstBytes.{step_begins}
use Rattle.batches.specs.Steps.{all_words, records_in}
use Rattle.batches.specs.Theorems.{RecordsBegin}
use Rattle.batches.proofs.ManySteps.{length_all}

all_append : (os qs : List (Outcome Item)) → all_words (os ++ qs) ≡ all_words os ++ all_words qs
all_append [] qs = refl
all_append (o ∷ os) qs =
    ap (λ (l : List ℕ). words o ++ l) (all_append os qs) ∙ sym (append_assoc (words o) (all_words os) (all_words qs))

pub records-begin : RecordsBegin
unfolding records_in
records-begin before after o old h =
    let all = before ++ (o ∷ after) in
    let rest = drop (record_size * length all) old in
    let behind : List ℕ = bytes_of (all_words after) ++ rest in
    let n : length (bytes_of (all_words before)) ≡ record_size * length before = omega (arith, length_bytes (all_words before), length_all before) in
    let e : bytes_of (all_words all) ++ rest ≡ bytes_of (all_words before) ++ (bytes_of (words o) ++ behind) =
    ap (λ (l : List ℕ). bytes_of l ++ rest) (all_append before (o ∷ after))
    ∙ ap (λ (l : List ℕ). l ++ rest) (bytes_append (all_words before) (words o ++ all_words after))
    ∙ append_assoc (bytes_of (all_words before)) (bytes_of (words o ++ all_words after)) rest
    ∙ ap (λ (l : List ℕ). bytes_of (all_words before) ++ (l ++ rest)) (bytes_append (words o) (all_words after))
    ∙ ap (λ (l : List ℕ). bytes_of (all_words before) ++ l) (append_assoc (bytes_of (words o)) (bytes_of (all_words after)) rest) in
    rw (le-ltb (length old) record_size h)
    (ap (λ (l : List ℕ). take first_size (drop (record_size * length before) l)) e
    ∙ sym (ap (λ (k : ℕ). take first_size (drop k (bytes_of (all_words before) ++ (bytes_of (words o) ++ behind)))) n)
    ∙ ap (take first_size) (drop-append_seam (bytes_of (all_words before)) (bytes_of (words o) ++ behind))
    ∙ step_begins o behind)
