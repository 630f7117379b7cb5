-- The scope paper's "Float": "4 and 8 are big-endian IEEE numbers, given as 64 bits"; what a 32-bit pattern of IEEE 754 is as a 64-bit one.
-- The theorems are proved in proofs/Widening.antt.
-- Assumes nothing.
use Rattle.std.specs.Prelude.{ℕ, ◌+◌, ◌*◌, ◌/◌, ◌%◌, ◌^◌, ◌<◌, ◌≡◌, true, cond, leb}
use Rattle.std.specs.Float.{binary32, binary64}
use Rattle.std.specs.Float.Ieee.{of_bits, to_bits, nan_bits, hid, ones, top}
use Rattle.numbers.specs.Outcome.{pick}

-- "A 4-byte NaN keeps sign and fraction and gains the quiet bit": the exponent's field is all ones, the fraction's 23 digits stand before 29 zeros,
-- and the highest of them is set.
unfoldable pub quiet_nan : ℕ → ℕ
quiet_nan b =
    cond (leb (top binary32) b) (top binary64) 0 + (ones binary64 * hid binary64 + (2 ^ 22 + b % 2 ^ 22) * 2 ^ 29)

-- any other pattern: that of the same number
unfoldable pub widen_of : ℕ → ℕ
widen_of b = pick (nan_bits binary32 b) (quiet_nan b) (to_bits binary64 (of_bits binary32 b))

-- the number stays what it was, a NaN a NaN
abbrev pub WidenMeans : Type 0
WidenMeans = (b : ℕ) → of_bits binary64 (widen_of b) ≡ of_bits binary32 b

-- the answer has 64 bits
abbrev pub WidenFits : Type 0
WidenFits = (b : ℕ) → widen_of b < 2 ^ 64

-- what a NaN's bits become: the same sign, the quiet bit, and behind it the same digits
pub record NanKept (b w : ℕ) : Type 0 where
  pub sign : leb (top binary64) w ≡ leb (top binary32) b
  pub exponent : w % top binary64 / hid binary64 ≡ ones binary64
  pub quiet : w % hid binary64 / 2 ^ 51 ≡ 1
  pub fraction : w % 2 ^ 51 ≡ b % 2 ^ 22 * 2 ^ 29

abbrev pub NansKept : Type 0
NansKept = (b : ℕ) → nan_bits binary32 b ≡ true → NanKept b (widen_of b)
