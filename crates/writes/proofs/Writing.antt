-- What the exported writing functions leave: 51 leaves both buffers, and else the answer's record and bytes stand there.
-- Assumes nothing.
use Prim.Native.Nat.{ℕ, ◌≤◌, ◌<◌}
use borrow.Author.Tests.{lt-ltb, le-ltb}
use mathlib.Core.Path.{◌≡◌, ◌∙◌, ap}
use mathlib.Core.List.{List}
use lib.ListN.{length}
use Rattle.numbers.specs.Outcome.{Outcome}
use Rattle.writing.specs.Answers.{buffer_after}
use Rattle.records.specs.Buffer.{record_size, record_in, returned, answered, words_in}
use Rattle.writes.specs.Writes.{write_words, Wrote}

module _ (o : Outcome ℕ) (bytes to : List ℕ) where
  pub no_record : (out : List ℕ) (r : ℕ) → r ≡ 51 → length out < record_size → Wrote o bytes to to out out r
  unfolding answered words_in
  no_record out r n h =
      let e = lt-ltb (length out) record_size h in
      record { number = rw e n; answer = rw e; buffer = rw e }

  pub wrote : (to' out out' : List ℕ) (r : ℕ) → record_size ≤ length out → {x : Outcome ℕ} → x ≡ o → to' ≡ buffer_after bytes to o → r ≡ returned out x → out' ≡ record_in (write_words x) out → Wrote o bytes to to' out out' r
  wrote to' out out' r h e b n a =
      record {
        number = n ∙ ap (returned out) e;
        answer = a ∙ ap (λ (y : Outcome ℕ). record_in (write_words y) out) e;
        buffer = b ∙ (rw (le-ltb (length out) record_size h));
      }
