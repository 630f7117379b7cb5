-- The scope paper's "Record": the bytes of words, and what a call leaves in the buffer and returns.
-- Assumes nothing.
use Rattle.std.specs.Prelude.{ℕ, zero, suc, ◌*◌, ◌/◌, ◌%◌, List, [], ◌∷◌, ◌++◌, length, get_or, drop, ltb, eqb}
use Rattle.numbers.specs.Outcome.{Outcome, gives, refuses, pick}

-- the lowest n bytes of a number, "little-endian"
unfoldable pub little_endian : ℕ → ℕ → List ℕ
little_endian zero x = []
little_endian (suc n) x = x % 256 ∷ little_endian n (x / 256)

-- "u64": a word has eight bytes
abbrev pub word_size : ℕ
word_size = 8

-- words, one after the other
abbrev pub bytes_of : List ℕ → List ℕ
bytes_of [] = []
bytes_of (w ∷ ws) = little_endian word_size w ++ bytes_of ws

-- A.6: the scope paper's "eight u64", and word 8
abbrev pub record_words : ℕ
record_words = 9

-- its bytes: "The record becomes 72 bytes"
abbrev pub record_size : ℕ
record_size = record_words * word_size

-- ---- a record of n words

-- it becomes the buffer's first bytes, and "longer buffers keep their further bytes"; where they have no room for it "nothing [is] written"
unfoldable pub words_in : ℕ → List ℕ → List ℕ → List ℕ
words_in n ws old = pick (ltb (length old) (n * word_size)) old (bytes_of ws ++ drop (n * word_size) old)

-- "The call returns 0 or the refusal's number."
abbrev pub number_of : {A : Type 0} → Outcome A → ℕ
number_of (gives a) = 0
number_of (refuses number position) = number

-- 51 where the buffer has no room for it, "tested first"
unfoldable pub answered : {A : Type 0} → ℕ → List ℕ → Outcome A → ℕ
answered n old o = pick (ltb (length old) (n * word_size)) 51 (number_of o)

-- the same from the words: a refusal's kind is 9, and its number the second word
unfoldable pub number_in : List ℕ → ℕ
number_in ws = pick (eqb (get_or ws 0 0) 9) (get_or ws 1 0) 0

-- what a call that puts these words returns, 51 first
unfoldable pub words_returned : ℕ → List ℕ → List ℕ → ℕ
words_returned n ws old = pick (ltb (length old) (n * word_size)) 51 (number_in ws)

-- ---- of nine words: "51 record buffer under 64 bytes", by A.6 "under 72 bytes"

abbrev pub record_in : List ℕ → List ℕ → List ℕ
record_in ws old = words_in record_words ws old

abbrev pub returned : {A : Type 0} → List ℕ → Outcome A → ℕ
returned old o = answered record_words old o

abbrev pub returned_by : List ℕ → List ℕ → ℕ
returned_by ws old = words_returned record_words ws old

-- ---- of a check: A.5, "sixteen words", "128 bytes (51 below)"

abbrev pub check_size : ℕ
check_size = 16 * word_size

abbrev pub check_in : List ℕ → List ℕ → List ℕ
check_in ws old = words_in 16 ws old

abbrev pub check_returned : {A : Type 0} → List ℕ → Outcome A → ℕ
check_returned old o = answered 16 old o

abbrev pub check_returned_by : List ℕ → List ℕ → ℕ
check_returned_by ws old = words_returned 16 ws old
