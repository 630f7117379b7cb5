-- A number that has its leading binary digit at place j is written as j's exponent and the digits below it, in either format; so the 64-bit pattern of a
-- 32-bit number is that number's digits at another place. The theorems of specs/Widen.antt follow.
-- Assumes nothing.
use Prim.Native.Nat.{ℕ, zero, suc, ◌+◌, ◌-◌, ◌*◌, ◌/◌, ◌%◌, ◌^◌, ◌≤◌, ◌<◌}
use native.Mathlib.Omega.{arith}
use native.Mathlib.Nat.{zero-add, add-zero, eq-zero-or-pos, add_assoc, le_of_suc-le-suc, mul_assoc, mul_right_comm, mul-div_cancel, mul-le-mul_right, le_antisymm, lt_of_not-le, lt_of_lt_of_le, lt_irrefl, le_trans, mod-eq_of_lt, pow-succ'}
use mathlib.Core.Path.{◌≡◌, refl, ◌∙◌, sym, ap, subst}
use mathlib.Core.Logic.{⊎_elim}
use mathlib.Core.Bool.{Bool, true, false, true≢false, cond, not}
use lib.Dec.{T, leb}
use lib.Pow.{pow-add, pow_pos, pow_mono, shl_lt}
use lib.Ieee.{Float, nan, inf, fin, Format, binary32, binary64, up, down, size, odd, is_nan, hid, ones, top, of_fields, of_bits, to_bits, nan_bits}
use lib.Ieee.Digits.{size-lt, size-le}
use lib.Ieee.Exact.{HasValue, odd_sign}
use lib.Ieee.Fits.{down_pos, fits_widens}
use lib.Ieee.Bits.{of_bits-to_bits, to_bits-of_bits, of_bits-fits, to_bits-lt, nan_bits_is, nan_bits_above}
use borrow.Author.Tests.{ne_eqb, le-leb, lt-leb, leb-true, leb-false, lt-ltb}
use Rattle.numbers.proofs.Outcomes.{by_test}
use Rattle.bodies.specs.Widen.{quiet_nan, widen_of, WidenMeans, WidenFits, NanKept, NansKept}
use Rattle.bodies.specs.Private.Fields.{sign_of, special_of, finite_of}

-- how many of a number's leading digits a 64-bit pattern drops, and what it writes
abbrev dropped : ℕ → ℕ
dropped n = size n - 53

abbrev written : ℕ → ℕ
written n = dropped n * hid binary64 + n / 2 ^ dropped n

-- a finite value, a times the smallest 32-bit one, is that many times the smallest 64-bit one
written_is : (x : Float) (s : Bool) (a : ℕ) → HasValue x s a (2 ^ 149) → to_bits binary64 x ≡ cond s (top binary64) 0 + written (a * 2 ^ 925)
unfolding to_bits
written_is nan s a h = absurd h
written_is (inf t) s a h = absurd h
written_is (fin t m e) s a h =
    ap (λ (n : ℕ). cond t (top binary64) 0 + dropped n * hid binary64 + n / 2 ^ dropped n) (ap (λ (n : ℕ). n / down e) scaled ∙ mul-div_cancel (a * 2 ^ 925) (down_pos e))
    ∙ add_assoc (cond t (top binary64) 0) (dropped (a * 2 ^ 925) * hid binary64) (a * 2 ^ 925 / 2 ^ dropped (a * 2 ^ 925))
    ∙ ap (λ (b : Bool). cond b (top binary64) 0 + written (a * 2 ^ 925)) h.0
  where
    scaled : m * up e * 2 ^ 1074 ≡ a * 2 ^ 925 * down e
    scaled =
        ap (λ (n : ℕ). m * up e * n) (pow-add 2 149 925)
        ∙ sym (mul_assoc (m * up e) (2 ^ 149) (2 ^ 925))
        ∙ ap (λ (n : ℕ). n * 2 ^ 925) h.1
        ∙ mul_right_comm a (down e) (2 ^ 925)

finite_written : (q k : ℕ) → finite_of q k ≡ written (q * 2 ^ k * 2 ^ 925)
unfolding finite_of
finite_written q k =
    written_is (odd 24 false q k 149) false (q * 2 ^ k) (odd_sign 24 false q k 149) ∙ zero-add (written (q * 2 ^ k * 2 ^ 925))

-- so the sign is apart from the rest
finite_sign : (s : Bool) (q k : ℕ) → to_bits binary64 (odd 24 s q k 149) ≡ cond s (top binary64) 0 + finite_of q k
finite_sign s q k =
    written_is (odd 24 s q k 149) s (q * 2 ^ k) (odd_sign 24 s q k 149)
    ∙ ap (λ (n : ℕ). cond s (top binary64) 0 + n) (sym (finite_written q k))

pub finite_zero : finite_of 0 0 ≡ 0
unfolding finite_of odd to_bits size
finite_zero = refl

-- how many digits a number has whose leading one is at place j
size_is : (n j : ℕ) → 2 ^ j ≤ n → n < 2 ^ suc j → size n ≡ suc j
size_is n j lo hi =
    le_antisymm (size-le n (suc j) hi)
    (lt_of_not-le (λ (g : size n ≤ j). lt_irrefl n (lt_of_lt_of_le (size-lt n) (le_trans (pow_mono g) lo))))

-- the law for normal and subnormal numbers
pub finite_at : (q k j : ℕ) → j ≤ 52 → 2 ^ j ≤ q → q < 2 ^ suc j → finite_of q k ≡ (873 + j + k) * hid binary64 + q * 2 ^ (52 - j)
finite_at q k j l lo hi =
    finite_written q k
    ∙ ap (λ (d : ℕ). d * hid binary64 + n / 2 ^ d) places
    ∙ ap (λ (x : ℕ). (873 + j + k) * hid binary64 + x) (ap (λ (x : ℕ). x / 2 ^ (873 + j + k)) moved ∙ mul-div_cancel (q * 2 ^ (52 - j)) (pow_pos (873 + j + k)))
  where
    n : ℕ
    n = q * 2 ^ k * 2 ^ 925

    joined : q * 2 ^ k * 2 ^ 925 ≡ q * 2 ^ (k + 925)
    joined = mul_assoc q (2 ^ k) (2 ^ 925) ∙ ap (λ (x : ℕ). q * x) (sym (pow-add 2 k 925))

    low : 2 ^ (j + (k + 925)) ≤ n
    low = rw (joined, pow-add 2 j (k + 925)) (mul-le-mul_right (2 ^ (k + 925)) lo)

    high : n < 2 ^ suc (j + (k + 925))
    high = let e : suc (j + (k + 925)) ≡ suc j + (k + 925) = omega arith in rw (joined, e) (shl_lt (suc j) (k + 925) hi)

    places : dropped n ≡ 873 + j + k
    places = ap (λ (z : ℕ). z - 53) (size_is n (j + (k + 925)) low high) ∙ omega arith

    moved : n ≡ q * 2 ^ (52 - j) * 2 ^ (873 + j + k)
    moved =
        let e : k + 925 ≡ 52 - j + (873 + j + k) = omega arith in
        joined ∙ ap (λ (x : ℕ). q * 2 ^ x) e ∙ ap (λ (x : ℕ). q * x) (pow-add 2 (52 - j) (873 + j + k)) ∙ sym (mul_assoc q (2 ^ (52 - j)) (2 ^ (873 + j + k)))

-- the leading digit of a number below 2^23 is at place j
module _ (q j : ℕ) (h : q < 2 ^ 23) (low : 2 ^ j ≤ q) (high : q < 2 * 2 ^ j) where
  place_small : j ≤ 22
  place_small = le_of_suc-le-suc (lt_of_not-le (λ (g : 23 ≤ j). lt_irrefl q (lt_of_lt_of_le h (le_trans (pow_mono g) low))))

  place_high : q < 2 ^ suc j
  place_high = rw (pow-succ' 2 j) high

  -- the digits shifted to the exponent's field, their leading one in it
  digits_small : q * 2 ^ (52 - j) < 2 ^ 53
  digits_small =
      let e : suc j + (52 - j) ≡ 53 = omega (arith, place_small) in
      subst (λ (n : ℕ). q * 2 ^ (52 - j) < 2 ^ n) e (shl_lt (suc j) (52 - j) place_high)

  shifted_kept : q * 2 ^ (52 - j) % 2 ^ 64 ≡ q * 2 ^ (52 - j)
  shifted_kept = mod-eq_of_lt (lt_of_lt_of_le digits_small (pow_mono {i = 53} {j = 64} (omega arith)))

  pub finite_place : finite_of q 0 ≡ (873 + j) * hid binary64 + q * 2 ^ (52 - j) % 2 ^ 64
  finite_place = finite_at q 0 j (omega (arith, place_small)) low place_high ∙ rw (add-zero (873 + j), shifted_kept)

  pub place_fits : (873 + j) * hid binary64 + q * 2 ^ (52 - j) % 2 ^ 64 < 2 ^ 63
  place_fits = rw shifted_kept (omega (arith, place_small, digits_small))

-- the kinds of a 32-bit pattern, by its exponent's field
module _ (b : ℕ) where
  pub widen_special : b % 2 ^ 31 / 2 ^ 23 ≡ 255 → widen_of b ≡ sign_of b + special_of (b % 2 ^ 23)
  unfolding widen_of nan_bits sign_of special_of quiet_nan of_bits of_fields to_bits
  widen_special e =
      let m : b % 2 ^ 23 % 2 ^ 22 ≡ b % 2 ^ 22 = omega arith in
      ⊎_elim (λ (z : b % 2 ^ 23 ≡ 0). rw (e, z)) (λ (z : 0 < b % 2 ^ 23). rw (e, ne_eqb (b % 2 ^ 23) 0 (omega arith), m))
      (eq-zero-or-pos (b % 2 ^ 23))

  pub widen_subnormal : b % 2 ^ 31 / 2 ^ 23 ≡ 0 → widen_of b ≡ sign_of b + finite_of (b % 2 ^ 23) 0
  unfolding widen_of nan_bits sign_of of_bits of_fields
  widen_subnormal e = rw e (finite_sign (leb (top binary32) b) (b % 2 ^ 23) 0)

  pub widen_normal : (x : ℕ) → b % 2 ^ 31 / 2 ^ 23 ≡ x → (x ≡ 0 → ⊥) → (x ≡ 255 → ⊥) → widen_of b ≡ sign_of b + ((896 + x) * hid binary64 + b % 2 ^ 23 * 2 ^ 29)
  unfolding widen_of nan_bits sign_of of_bits of_fields
  widen_normal zero e n z = absurd (n refl)
  widen_normal (suc x) e n z =
      let t : ℕ = b % 2 ^ 23 in
      rw (e, ne_eqb (suc x) 255 z) (finite_sign (leb (top binary32) b) (2 ^ 23 + t) x)
      ∙ ap (λ (n : ℕ). sign_of b + n) (finite_at (2 ^ 23 + t) x 23 (omega arith) (omega arith) (omega arith) ∙ omega arith)

-- the pattern that a NaN's sign and low digits are put into
abbrev quieted : Bool → ℕ → ℕ
quieted s y = cond s (top binary64) 0 + (ones binary64 * hid binary64 + (2 ^ 22 + y) * 2 ^ 29)

module _ (y : ℕ) (h : y < 2 ^ 22) where
  quiet_sign : (s : Bool) → leb (top binary64) (quieted s y) ≡ s
  quiet_sign true = le-leb (top binary64) (quieted true y) (omega arith)
  quiet_sign false = lt-leb (top binary64) (quieted false y) (omega arith)

  quiet_below : (s : Bool) → quieted s y % top binary64 ≡ quieted false y
  quiet_below true = omega arith
  quiet_below false = omega arith

  quiet_digits : (s : Bool) → quieted s y % hid binary64 ≡ (2 ^ 22 + y) * 2 ^ 29
  quiet_digits true = omega arith
  quiet_digits false = omega arith

  quiet_rest : (s : Bool) → quieted s y % 2 ^ 51 ≡ y * 2 ^ 29
  quiet_rest true = omega arith
  quiet_rest false = omega arith

  quiet_small : (s : Bool) → quieted s y < 2 ^ 64
  quiet_small true = omega arith
  quiet_small false = omega arith

module _ (b : ℕ) where
  rest_small : b % 2 ^ 22 < 2 ^ 22
  rest_small = omega arith

  quiet_below_top : quiet_nan b % top binary64 ≡ quieted false (b % 2 ^ 22)
  unfolding quiet_nan
  quiet_below_top = quiet_below (b % 2 ^ 22) rest_small (leb (top binary32) b)

  quiet_told : NanKept b (quiet_nan b)
  unfolding quiet_nan
  quiet_told =
      record {
        sign = quiet_sign (b % 2 ^ 22) rest_small (leb (top binary32) b);
        exponent = ap (λ (w : ℕ). w / hid binary64) (quiet_below (b % 2 ^ 22) rest_small (leb (top binary32) b)) ∙ omega arith;
        quiet = ap (λ (w : ℕ). w / 2 ^ 51) (quiet_digits (b % 2 ^ 22) rest_small (leb (top binary32) b)) ∙ omega arith;
        fraction = quiet_rest (b % 2 ^ 22) rest_small (leb (top binary32) b);
      }

  quiet_is_nan : nan_bits binary64 (quiet_nan b) ≡ true
  quiet_is_nan =
      nan_bits_above binary64 (quiet_nan b) ∙ lt-ltb (ones binary64 * hid binary64) (quiet_nan b % top binary64) (rw quiet_below_top (omega arith))

only_nan : (x : Float) → is_nan x ≡ true → x ≡ nan
unfolding is_nan
only_nan nan e = refl
only_nan (inf s) e = absurd (true≢false (sym e))
only_nan (fin s m e) h = absurd (true≢false (sym h))

nan_read : (f : Format) (b : ℕ) → nan_bits f b ≡ true → of_bits f b ≡ nan
nan_read f b e = only_nan (of_bits f b) (sym (nan_bits_is f b) ∙ e)

pub widen_means : WidenMeans
unfolding widen_of
widen_means b =
    by_test (λ w. of_bits binary64 w ≡ of_bits binary32 b) (nan_bits binary32 b)
    (λ n. nan_read binary64 (quiet_nan b) (quiet_is_nan b) ∙ sym (nan_read binary32 b n))
    (λ _. of_bits-to_bits binary64 (of_bits binary32 b) (fits_widens (of_bits binary32 b) (of_bits-fits binary32 b)))

pub widen_fits : WidenFits
unfolding widen_of quiet_nan
widen_fits b =
    by_test (λ w. w < 2 ^ 64) (nan_bits binary32 b) (λ _. quiet_small (b % 2 ^ 22) (rest_small b) (leb (top binary32) b))
    (λ _. to_bits-lt binary64 (of_bits binary32 b) (fits_widens (of_bits binary32 b) (of_bits-fits binary32 b)))

pub nans_kept : NansKept
unfolding widen_of
nans_kept b n = rw n (quiet_told b)

-- a NaN's fields are all of its pattern
nan_joined : (b w : ℕ) → w < 2 ^ 64 → NanKept b w → quiet_nan b ≡ w
unfolding quiet_nan
nan_joined b w h k = by_sign (leb (top binary32) b) k.sign
  where
    digits : w % top binary64 ≡ quieted false (b % 2 ^ 22)
    digits = omega (arith, k.exponent, k.quiet, k.fraction)

    by_sign : (s : Bool) → leb (top binary64) w ≡ s → quieted s (b % 2 ^ 22) ≡ w
    by_sign true e = omega (arith, digits, leb-true (top binary64) w e)
    by_sign false e = omega (arith, digits, leb-false (top binary64) w e)

-- there is one such pattern: a number has one, and a NaN's is what its kept fields make
pub widen_one : (b w : ℕ) → of_bits binary64 w ≡ of_bits binary32 b → w < 2 ^ 64 → (nan_bits binary32 b ≡ true → NanKept b w) → widen_of b ≡ w
unfolding widen_of
widen_one b w e h k =
    by_test (λ x. x ≡ w) (nan_bits binary32 b) (λ n. nan_joined b w h (k n)) (λ n.
    let m : is_nan (of_bits binary64 w) ≡ false = ap is_nan e ∙ sym (nan_bits_is binary32 b) ∙ n in
    ap (to_bits binary64) (sym e) ∙ to_bits-of_bits binary64 w h (subst (λ (t : Bool). T (not t)) (sym m) tt))

-- the sums that make up the answer fit, since the answer does
module _ (b : ℕ) where
  pub special_fits : b % 2 ^ 31 / 2 ^ 23 ≡ 255 → sign_of b + special_of (b % 2 ^ 23) < 2 ^ 64
  special_fits e = rw (← widen_special b e) (widen_fits b)

  pub subnormal_fits : b % 2 ^ 31 / 2 ^ 23 ≡ 0 → sign_of b + finite_of (b % 2 ^ 23) 0 < 2 ^ 64
  subnormal_fits e = rw (← widen_subnormal b e) (widen_fits b)

  pub normal_fits : (x : ℕ) → b % 2 ^ 31 / 2 ^ 23 ≡ x → (x ≡ 0 → ⊥) → (x ≡ 255 → ⊥) → sign_of b + ((896 + x) * hid binary64 + b % 2 ^ 23 * 2 ^ 29) < 2 ^ 64
  normal_fits x e h k = rw (← widen_normal b x e h k) (widen_fits b)
