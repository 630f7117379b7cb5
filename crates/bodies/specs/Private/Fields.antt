-- What the private functions of float.rt answer; callers of the crate need none of this.
-- Assumes nothing.
use Rattle.std.specs.Prelude.{ℕ, ◌+◌, ◌*◌, ◌%◌, ◌^◌, false, cond, leb, eqb}
use Rattle.std.specs.Float.{binary32, binary64}
use Rattle.std.specs.Float.Ieee.{prec, low, odd, to_bits, hid, ones, top}
use Rattle.numbers.specs.Outcome.{pick}

-- the sign in its place
unfoldable pub sign_of : ℕ → ℕ
sign_of b = cond (leb (top binary32) b) (top binary64) 0

-- an infinity's or a NaN's pattern without its sign, by the 32-bit fraction
unfoldable pub special_of : ℕ → ℕ
special_of t = pick (eqb t 0) (ones binary64 * hid binary64) (ones binary64 * hid binary64 + (2 ^ 22 + t % 2 ^ 22) * 2 ^ 29)

-- the pattern of q times 2 ^ k times the smallest 32-bit number
unfoldable pub finite_of : ℕ → ℕ → ℕ
finite_of q k = to_bits binary64 (odd (prec binary32) false q k (low binary32))
