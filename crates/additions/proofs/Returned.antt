-- What a call returns that puts an answer's words: the number of the answer, 51 first.
-- Assumes nothing.
use Prim.Native.Nat.{ℕ}
use mathlib.Core.Path.{◌≡◌}
use mathlib.Core.List.{List}
use Rattle.numbers.specs.Outcome.{Outcome}
use Rattle.bodies.specs.Decimal.{Split}
use Rattle.values.specs.Timestamps.{Dated}
use Rattle.symbols.specs.Text.{Own, Text}
use Rattle.records.specs.Buffer.{returned_by, returned, check_returned_by, check_returned}
use Rattle.records.specs.SymbolWords.{text_words, symbols_words}
use Rattle.records.specs.Words.{bytes_words, check_words, decimal_words, timestamp_words}
use Rattle.records.proofs.Numbers.{bytes_number, check-number, decimal_number, timestamp_number, returned-by}
use Rattle.records.proofs.SymbolNumbers.{text_number, symbols_number}

pub bytes_returned : (kind : ℕ) (o : Outcome ℕ) (old : List ℕ) → returned_by (bytes_words kind o) old ≡ returned old o
bytes_returned kind o old = returned-by 9 (bytes_words kind o) old o (bytes_number kind o)

pub decimal_returned : (start : ℕ) (o : Outcome Split) (old : List ℕ) → returned_by (decimal_words start o) old ≡ returned old o
decimal_returned start o old = returned-by 9 (decimal_words start o) old o (decimal_number start o)

pub timestamp_returned : (o : Outcome Dated) (old : List ℕ) → returned_by (timestamp_words o) old ≡ returned old o
timestamp_returned o old = returned-by 9 (timestamp_words o) old o (timestamp_number o)

pub check_answered : (o : Outcome (List ℕ)) (old : List ℕ) → check_returned_by (check_words o) old ≡ check_returned old o
check_answered o old = returned-by 16 (check_words o) old o (check-number o)

pub text_returned : (id : ℕ) (o : Outcome Text) (old : List ℕ) → returned_by (text_words id o) old ≡ returned old o
text_returned id o old = returned-by 9 (text_words id o) old o (text_number id o)

pub symbols_returned : (o : Outcome Own) (old : List ℕ) → returned_by (symbols_words o) old ≡ returned old o
symbols_returned o old = returned-by 9 (symbols_words o) old o (symbols_number o)
