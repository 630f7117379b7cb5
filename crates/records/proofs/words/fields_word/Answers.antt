-- `fields_word` meets its contract: each byte in its own place.
use native.Mathlib.Omega.{arith}
use Rattle.records.specs.Words.{fields_word}
use Rattle.records.proofs.words.fields_word.Goals as goal

pub returns : goal.returns
unfolding fields_word
returns c = let e = rw c.to_le_bytes.ensures at c.from_le_bytes.ensures in omega arith
