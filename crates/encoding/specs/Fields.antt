-- Numbers as they are written, by the Ion 1.0 Binary Encoding: the bytes of a VarUInt and of a UInt.
-- Assumes nothing.
use Rattle.std.specs.Prelude.{ℕ, zero, suc, ◌+◌, ◌-◌, ◌/◌, ◌%◌, ◌^◌, List, [], ◌∷◌, ltb}
use Rattle.numbers.specs.Outcome.{pick}
use Rattle.numbers.specs.Answers.{most_bytes}

-- "VarUInt and VarInt Fields": n in k + 1 bytes, seven bits a byte, the most significant first; the high bit of the last byte is one, and those of all others
-- are zero. Leading zeros are allowed.
unfoldable pub var_uint_in : ℕ → ℕ → List ℕ
var_uint_in zero n = (128 + n % 128) ∷ []
var_uint_in (suc k) n = (n / 128 ^ suc k % 128) ∷ var_uint_in k n

-- the fewest bytes, from k on, of a VarUInt that tells f k, a number that may depend on how many they are; k and so many more where none of so many tries does
unfoldable pub fewest : ℕ → ℕ → (ℕ → ℕ) → ℕ
fewest zero k f = k
fewest (suc tries) k f = pick (ltb (f k) (128 ^ k)) k (fewest tries (suc k) f)

-- how many bytes n has at least: nine at most, and ten where nine do not tell it
unfoldable pub var_uint_size : ℕ → ℕ
var_uint_size n = fewest most_bytes 1 (λ _. n)

-- n in the fewest bytes
unfoldable pub var_uint_bytes : ℕ → List ℕ
var_uint_bytes n = var_uint_in (var_uint_size n - 1) n

-- "UInt and Int Fields", UInt: n in k bytes, the most significant first
unfoldable pub big_endian : ℕ → ℕ → List ℕ
big_endian zero n = []
big_endian (suc k) n = (n / 256 ^ k % 256) ∷ big_endian k n
