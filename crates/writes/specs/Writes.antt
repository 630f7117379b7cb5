-- The exported functions of the change request A.13: the record of what was written, and what both lent buffers hold behind a call.
-- Assumes nothing.
use Rattle.std.specs.Prelude.{ℕ, ◌≡◌, Bool, List, Result, length, ltb, eqb}
use Rattle.numbers.specs.Outcome.{Outcome, gives, pick, refuse_if}
use Rattle.numbers.specs.Read.{outcome}
use Rattle.numbers.specs.declared.refusal.Refusal.{Refusal}
use Rattle.writing.specs.Answers.{buffer_after}
use Rattle.records.specs.Buffer.{record_size, record_in, returned}
use Rattle.records.specs.Words.{bytes_words}

-- kind 17, 0, 0, the length, zeros
abbrev pub write_words : Outcome ℕ → List ℕ
write_words o = bytes_words 17 o

-- 50 for a flag that is neither 0 nor 1
abbrev pub flagged : ℕ → Outcome ℕ → Outcome ℕ
flagged flag o = refuse_if (ltb 1 flag) 50 0 o

-- what a flag says
abbrev pub flag_of : ℕ → Outcome Bool
flag_of flag = refuse_if (ltb 1 flag) 50 0 (gives (eqb flag 1))

abbrev pub flag_read : Result Bool Refusal → Outcome Bool
flag_read = outcome (λ b. b)

-- The answer's number is returned, its record stands in `out`, and the bytes in `to`; 51 comes first, and then nothing is written to either.
pub record Wrote (o : Outcome ℕ) (bytes to to' out out' : List ℕ) (r : ℕ) : Type 0 where
  pub number : r ≡ returned out o
  pub answer : out' ≡ record_in (write_words o) out
  pub buffer : to' ≡ pick (ltb (length out) record_size) to (buffer_after bytes to o)
