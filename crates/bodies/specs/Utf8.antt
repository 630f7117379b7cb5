-- UTF-8 by the Unicode Standard, section 3.9: well-formed byte sequences (Table 3-7), the encoding of a scalar value (Table 3-6), and that the two agree.
-- The theorems are proved in proofs/Encoding.antt.
-- Assumes nothing.
use Rattle.std.specs.Prelude.{ℕ, ◌+◌, ◌/◌, ◌%◌, ◌≤◌, ◌≡◌, ◌⊎◌, Bool, true, false, List, [], ◌∷◌, ◌++◌, leb}
use Rattle.std.proofs.Math.Option.{Option, none, some}
use Rattle.numbers.specs.Outcome.{pick, outside_of}
use Rattle.numbers.specs.Bytes.{part}

-- the bytes from one to another, both in it
pub data Range : Type 0 where
  range : ℕ → ℕ → Range

abbrev pub in_range : Range → ℕ → Bool
in_range (range low high) b = pick (leb b high) (leb low b) false

-- a row of the table: the first byte's range, and the ranges of the bytes after it
pub data Row : Type 0 where
  row : Range → List Range → Row

abbrev pub tail : Range
tail = range 0x80 0xBF

-- Table 3-7, "Well-Formed UTF-8 Byte Sequences".
unfoldable pub table : List Row
table =
    row (range 0x00 0x7F) []
    ∷ row (range 0xC2 0xDF) (tail ∷ [])
    ∷ row (range 0xE0 0xE0) (range 0xA0 0xBF ∷ tail ∷ [])
    ∷ row (range 0xE1 0xEC) (tail ∷ tail ∷ [])
    ∷ row (range 0xED 0xED) (range 0x80 0x9F ∷ tail ∷ [])
    ∷ row (range 0xEE 0xEF) (tail ∷ tail ∷ [])
    ∷ row (range 0xF0 0xF0) (range 0x90 0xBF ∷ tail ∷ tail ∷ [])
    ∷ row (range 0xF1 0xF3) (tail ∷ tail ∷ tail ∷ [])
    ∷ row (range 0xF4 0xF4) (range 0x80 0x8F ∷ tail ∷ tail ∷ [])
    ∷ []

-- what is wanted after a first byte: none where no row has it
unfoldable pub row_of : List Row → ℕ → Option (List Range)
row_of [] b = none
row_of (row first rest ∷ rows) b = pick (in_range first b) (some rest) (row_of rows b)

abbrev pub if_some : Option (List Range) → (List Range → Bool) → Bool
if_some none f = false
if_some (some ranges) f = f ranges

-- the bytes are one in each of the ranges still wanted, and then sequences of the table up to their end
unfoldable pub goes_on : List ℕ → List Range → Bool
goes_on [] [] = true
goes_on [] (r ∷ rs) = false
goes_on (b ∷ bs) [] = if_some (row_of table b) (goes_on bs)
goes_on (b ∷ bs) (r ∷ rs) = pick (in_range r b) (goes_on bs rs) false

-- D85: sequences of the table, and nothing else
abbrev pub well_formed : List ℕ → Bool
well_formed bs = goes_on bs []

-- the bytes at..end of a slice are well-formed; not so where at..end is no part of it
unfoldable pub utf8 : List ℕ → ℕ → ℕ → Bool
utf8 s at end = pick (outside_of s at end) false (well_formed (part s at end))

-- D76, "Unicode scalar value": 0 to D7FF, and E000 to 10FFFF.
abbrev pub ScalarValue : ℕ → Type 0
ScalarValue c = (c ≤ 0xD7FF) ⊎ ((0xE000 ≤ c) × (c ≤ 0x10FFFF))

pub data ScalarValues : List ℕ → Type 0 where
  no_more : ScalarValues []
  also : {c : ℕ} {cs : List ℕ} → ScalarValue c → ScalarValues cs → ScalarValues (c ∷ cs)

-- Table 3-6, "UTF-8 Bit Distribution": one byte to 7F, two to 7FF, three to FFFF, then four; six bits in each byte after the first.
unfoldable pub encode : ℕ → List ℕ
encode c =
    pick (leb c 0x7F) (c ∷ [])
    (pick (leb c 0x7FF) ((0xC0 + c / 0x40) ∷ (0x80 + c % 0x40) ∷ [])
    (pick (leb c 0xFFFF) ((0xE0 + c / 0x1000) ∷ (0x80 + c / 0x40 % 0x40) ∷ (0x80 + c % 0x40) ∷ [])
    ((0xF0 + c / 0x40000) ∷ (0x80 + c / 0x1000 % 0x40) ∷ (0x80 + c / 0x40 % 0x40) ∷ (0x80 + c % 0x40) ∷ [])))

unfoldable pub encoded : List ℕ → List ℕ
encoded [] = []
encoded (c ∷ cs) = encode c ++ encoded cs

-- every list of scalar values, encoded, is well-formed
abbrev pub EncodedAccepted : Type 0
EncodedAccepted = (cs : List ℕ) → ScalarValues cs → well_formed (encoded cs) ≡ true

-- what is well-formed is the encoding of a list of scalar values
abbrev pub AcceptedEncoded : Type 0
AcceptedEncoded = (bs : List ℕ) → well_formed bs ≡ true → (cs : List ℕ) × ScalarValues cs × (encoded cs ≡ bs)
