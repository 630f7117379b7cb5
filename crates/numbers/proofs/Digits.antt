-- Digits in a base: their number stays below the base's power, and a number's first digits take one more behind them.
-- Assumes nothing.
use Prim.Native.Nat.{ℕ, ◌+◌, ◌*◌, ◌%◌, ◌^◌, ◌≤◌, ◌<◌}
use native.Mathlib.Omega.{arith}
use native.Mathlib.Nat.{pow-zero, pow-suc, mul_assoc, mul_comm, add-mul, mul-le-mul_right, mod-lt}
use mathlib.Core.Path.{◌≡◌}
use mathlib.Core.List.{List, [], ◌∷◌, map}
use lib.ListN.{length, length-map}
use Rattle.numbers.specs.Format.{of_digits, low_seven, var_uint_of}
use Rattle.numbers.specs.Private.Groups.{followed_by}

-- a digit below the base, before digits worth less than m, is worth m at each step
pub digit_below : (base d x m : ℕ) → d < base → x < m → d * m + x < m * base
digit_below base d x m hd hx =
    let h : d + 1 ≤ base = omega arith in
    let k : (d + 1) * m ≤ base * m = mul-le-mul_right m h in
    let e : d * m + 1 * m ≤ base * m = rw add-mul at k in
    rw (mul_comm m base) (omega arith)

pub data Below (base : ℕ) : List ℕ → Type 0 where
  none : Below base []
  digit : {d : ℕ} {ds : List ℕ} → d < base → Below base ds → Below base (d ∷ ds)

pub digits_below : {base : ℕ} {ds : List ℕ} → Below base ds → of_digits base ds < base ^ length ds
unfolding of_digits
digits_below {base} none = omega (arith, pow-zero base)
digits_below {base} (digit {d} {ds} h r) =
    rw pow-suc (digit_below base d (of_digits base ds) (base ^ length ds) h (digits_below r))

pub lows_below : (bs : List ℕ) → Below 128 (map low_seven bs)
lows_below [] = none
lows_below (b ∷ bs) = digit (mod-lt b (omega arith)) (lows_below bs)

-- the digits worth v take the next byte's behind them
pub followed_cons : (v b : ℕ) (bs : List ℕ) → followed_by v (b ∷ bs) ≡ followed_by (v * 128 + b % 128) bs
unfolding followed_by var_uint_of of_digits
followed_cons v b bs =
    rw
    (pow-suc 128 (length bs), mul_comm (128 ^ length bs) 128, ← mul_assoc v 128 (128 ^ length bs), length-map bs low_seven, add-mul (v * 128) (b % 128) (128 ^ length bs))
    (omega arith)

pub followed_none : (v : ℕ) → followed_by v [] ≡ v
unfolding followed_by var_uint_of of_digits
followed_none v = omega arith

-- a number with no digits before it
pub followed_zero : (bs : List ℕ) → followed_by 0 bs ≡ var_uint_of bs
unfolding followed_by
followed_zero bs = omega arith
