-- The number fields of the Ion 1.0 Binary Encoding, on lists of bytes: which bytes they are and what they are worth.
-- Assumes nothing.
use Rattle.std.specs.Prelude.{ℕ, ◌+◌, ◌*◌, ◌/◌, ◌%◌, ◌^◌, ◌≤◌, ◌<◌, Bool, false, List, [], ◌∷◌, map, length, leb, eqb}
use Rattle.numbers.specs.Bytes.{part}

-- digits in a base, the most significant first: each is worth the base to the power of how many digits follow it
unfoldable pub of_digits : ℕ → List ℕ → ℕ
of_digits base [] = 0
of_digits base (d ∷ ds) = d * base ^ length ds + of_digits base ds

-- "UInt and Int Fields", UInt: the bytes of a number, the most significant first.
unfoldable pub uint_of : List ℕ → ℕ
uint_of bs = of_digits 256 bs

-- "UInt and Int Fields", Int: sign and magnitude; the highest bit of the first byte is the sign. No bytes are zero.
unfoldable pub int_negative : List ℕ → Bool
int_negative [] = false
int_negative (b ∷ bs) = leb 128 b

unfoldable pub int_magnitude : List ℕ → ℕ
int_magnitude [] = 0
int_magnitude (b ∷ bs) = of_digits 256 (b % 128 ∷ bs)

-- "VarUInt and VarInt Fields": the high bit of the last byte is one, and those of all others are zero.
pub data VarBytes : List ℕ → Type 0 where
  last : {b : ℕ} → 128 ≤ b → VarBytes (b ∷ [])
  more : {b : ℕ} {bs : List ℕ} → b < 128 → VarBytes bs → VarBytes (b ∷ bs)

-- the seven bits that a byte of such a field carries
abbrev pub low_seven : ℕ → ℕ
low_seven b = b % 128

-- VarUInt: seven bits a byte, the most significant first.
unfoldable pub var_uint_of : List ℕ → ℕ
var_uint_of bs = of_digits 128 (map low_seven bs)

-- VarInt: the same, but that the first byte has the sign at 40 and six bits below it.
unfoldable pub var_int_negative : List ℕ → Bool
var_int_negative [] = false
var_int_negative (b ∷ bs) = eqb (b / 64 % 2) 1

unfoldable pub var_int_magnitude : List ℕ → ℕ
var_int_magnitude [] = 0
var_int_magnitude (b ∷ bs) = of_digits 128 (b % 64 ∷ map low_seven bs)

-- the part at..end of the slice begins with the bytes at..next of a VarUInt or a VarInt
pub record NumberAt (s : List ℕ) (at end next : ℕ) : Type 0 where
  pub bytes : VarBytes (part s at next)
  pub begins : at < next
  pub ends : next ≤ end
  pub within : end ≤ length s
