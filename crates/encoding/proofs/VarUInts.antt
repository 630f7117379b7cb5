-- VarUInts and UInts as they are written: each digit is the number's, so that they read back, and the fewest bytes are those whose power of 128 exceeds it.
-- Assumes nothing.
use Prim.Native.Nat.{ℕ, zero, suc, max, ◌+◌, ◌-◌, ◌*◌, ◌/◌, ◌%◌, ◌^◌, ◌≤◌, ◌<◌}
use native.Mathlib.Omega.{arith}
use native.Mathlib.Nat.{div-one, pow-zero, pow-suc, pow-le-pow_right, one-le-pow, lt_of_lt_of_le, mul_assoc, mul_comm, add-mul, mod-lt, mod-mod, mod-eq_of_lt, div-add-mod', mul-add-mod_self_right, div-div-eq-div-mul}
use native.Mathlib.Numerals.{add-one}
use mathlib.Core.Path.{◌≡◌, refl, ◌∙◌, sym, ap, subst}
use mathlib.Core.List.{List, [], ◌∷◌, map}
use lib.ListN.{length, length-map}
use lib.Dec.{ltb}
use borrow.Author.Tests.{ltb-true, ltb-false}
use Rattle.numbers.specs.Format.{VarBytes, last, more, of_digits, uint_of, low_seven, var_uint_of}
use Rattle.numbers.specs.Answers.{most_bytes}
use Rattle.numbers.proofs.Outcomes.{by_test, by_case}
use Rattle.numbers.proofs.Digits.{digit_below, digits_below, lows_below}
use Rattle.encoding.specs.Fields.{var_uint_in, fewest, var_uint_size, var_uint_bytes, big_endian}
use Rattle.encoding.specs.Meaning.{VarUIntWritten, VarUIntSized, VarUIntPast, VarUIntShortest, VarUIntGrows, UIntWritten}

-- ---- digits

-- a power of the base is no zero
pub positive : (base k : ℕ) → 0 < base → 0 < base ^ k
positive base k h = one-le-pow k base h

-- what is left by a base's power times the base: one digit, and what is left by the power
digit_left : (base n p : ℕ) → 0 < base → 0 < p → n % (p * base) ≡ n / p % base * p + n % p
digit_left base n p b h =
    let q : ℕ = n / p in
    let c : ℕ = q % base * p + n % p in
    let small : c < p * base = digit_below base (q % base) (n % p) p (mod-lt q b) (mod-lt n h) in
    let split : (q / base * base + q % base) * p ≡ q / base * (p * base) + q % base * p = add-mul (q / base * base) (q % base) p ∙ ap (λ (x : ℕ). x + q % base * p) (mul_assoc (q / base) base p ∙ ap (λ (x : ℕ). q / base * x) (mul_comm base p)) in
    let whole : n ≡ q / base * (p * base) + c = sym (div-add-mod' n p) ∙ ap (λ (x : ℕ). x * p + n % p) (sym (div-add-mod' q base)) ∙ ap (λ (x : ℕ). x + n % p) split ∙ omega arith in
    ap (λ (x : ℕ). x % (p * base)) whole ∙ mul-add-mod_self_right (q / base) (p * base) c ∙ mod-eq_of_lt small

-- ---- VarUInts

in_bytes : (k n : ℕ) → VarBytes (var_uint_in k n)
unfolding var_uint_in
in_bytes zero n = let h : 128 ≤ 128 + n % 128 = omega arith in last h
in_bytes (suc k) n = more (mod-lt (n / 128 ^ suc k) (omega arith)) (in_bytes k n)

in_size : (k n : ℕ) → length (var_uint_in k n) ≡ suc k
unfolding var_uint_in
in_size zero n = refl
in_size (suc k) n = ap suc (in_size k n)

in_worth : (k n : ℕ) → var_uint_of (var_uint_in k n) ≡ n % 128 ^ suc k
unfolding var_uint_in var_uint_of of_digits
in_worth zero n =
    let e : (128 + n % 128) % 128 ≡ n % 128 = omega arith in
    rw e (omega arith)
in_worth (suc k) n =
    let p : ℕ = 128 ^ suc k in
    let l : length (map low_seven (var_uint_in k n)) ≡ suc k = length-map (var_uint_in k n) low_seven ∙ in_size k n in
    ap (λ (x : ℕ). n / p % 128 % 128 * 128 ^ x + var_uint_of (var_uint_in k n)) l
    ∙ ap (λ (x : ℕ). x * p + var_uint_of (var_uint_in k n)) (mod-mod (n / p) 128)
    ∙ ap (λ (x : ℕ). n / p % 128 * p + x) (in_worth k n)
    ∙ sym (digit_left 128 n p (omega arith) (positive 128 (suc k) (omega arith)))
    ∙ ap (λ (x : ℕ). n % x) (sym (pow-suc 128 (suc k)))

-- the first of so many bytes, and the last one
pub in_first : (k n : ℕ) → 0 < k → var_uint_in k n ≡ n / 128 ^ k % 128 ∷ var_uint_in (k - 1) n
unfolding var_uint_in
in_first zero n h = absurd (omega arith)
in_first (suc k) n h = let e : suc k - 1 ≡ k = omega arith in rw e

pub in_last : (n : ℕ) → var_uint_in 0 n ≡ (128 + n % 128) ∷ []
unfolding var_uint_in
in_last n = refl

pub var_uint_written : VarUIntWritten
var_uint_written k n = record { bytes = in_bytes k n; size = in_size k n; worth = λ h. in_worth k n ∙ mod-eq_of_lt h }

-- ---- the fewest bytes

module _ (f : ℕ → ℕ) where
  pub fewest_low : (tries k : ℕ) → k ≤ fewest tries k f
  unfolding fewest
  fewest_low zero k = omega arith
  fewest_low (suc tries) k =
      by_test (λ (x : ℕ). k ≤ x) (ltb (f k) (128 ^ k)) (λ _. omega arith) (λ _. omega (arith, fewest_low tries (suc k)))

  pub fewest_high : (tries k : ℕ) → fewest tries k f ≤ k + tries
  unfolding fewest
  fewest_high zero k = omega arith
  fewest_high (suc tries) k =
      by_test (λ (x : ℕ). x ≤ k + suc tries) (ltb (f k) (128 ^ k)) (λ _. omega arith) (λ _. omega (arith, fewest_high tries (suc k)))

  -- they tell the number, unless all tries are used up
  pub fewest_enough : (tries k : ℕ) → fewest tries k f < k + tries → f (fewest tries k f) < 128 ^ fewest tries k f
  unfolding fewest
  fewest_enough zero k = λ h. absurd (omega arith)
  fewest_enough (suc tries) k =
      by_test (λ (x : ℕ). x < k + suc tries → f x < 128 ^ x) (ltb (f k) (128 ^ k)) (λ e _. ltb-true (f k) (128 ^ k) e)
      (λ _ h. fewest_enough tries (suc k) (omega arith))

  -- and no fewer do
  pub fewest_least : (tries k j : ℕ) → k ≤ j → f j < 128 ^ j → fewest tries k f ≤ j
  unfolding fewest
  fewest_least zero k j h l = h
  fewest_least (suc tries) k j h l =
      by_test (λ (x : ℕ). x ≤ j) (ltb (f k) (128 ^ k)) (λ _. h)
      (λ e. fewest_least tries (suc k) j (past (ltb-false (f k) (128 ^ k) e)) l)
    where
      past : 128 ^ k ≤ f k → k < j
      past m = by_case (ltb k j) (λ b. ltb-true k j b) (λ b.
          let e : k ≡ j = omega (arith, ltb-false k j b) in
          let m' : 128 ^ j ≤ f j = subst (λ (x : ℕ). 128 ^ x ≤ f x) e m in
          absurd (omega arith))

module _ (n : ℕ) where
  pub size_low : 1 ≤ var_uint_size n
  unfolding var_uint_size
  size_low = fewest_low (λ _. n) most_bytes 1

  pub size_high : var_uint_size n ≤ 10
  unfolding var_uint_size
  size_high = fewest_high (λ _. n) most_bytes 1

  pub size_least : (j : ℕ) → 1 ≤ j → n < 128 ^ j → var_uint_size n ≤ j
  unfolding var_uint_size
  size_least j h l = fewest_least (λ _. n) most_bytes 1 j h l

  pub size_enough : var_uint_size n ≤ 9 → n < 128 ^ var_uint_size n
  unfolding var_uint_size
  size_enough h = fewest_enough (λ _. n) most_bytes 1 (omega arith)

pub var-uint-sized : VarUIntSized
unfolding var_uint_bytes
var-uint-sized n h =
    let few : var_uint_size n ≤ 9 = size_least n 9 (omega arith) h in
    let some : 1 ≤ var_uint_size n = size_low n in
    let k : ℕ = var_uint_size n - 1 in
    let e : suc k ≡ var_uint_size n = omega arith in
    record {
      some = some;
      few = few;
      bytes = in_bytes k n;
      size = in_size k n ∙ e;
      worth = in_worth k n ∙ mod-eq_of_lt (subst (λ (x : ℕ). n < 128 ^ x) (sym e) (size_enough n few));
    }

pub bytes_size : (n : ℕ) → length (var_uint_bytes n) ≡ var_uint_size n
unfolding var_uint_bytes
bytes_size n = in_size (var_uint_size n - 1) n ∙ omega (arith, size_low n)

-- by the greatest power of 128 that a number is at least
pub size_by_power : (n k : ℕ) → 128 ^ k ≤ max n 1 → max n 1 < 128 * 128 ^ k → n < 2 ^ 64 → var_uint_size n ≡ k + 1
size_by_power n k l h f =
    let e : 128 ^ (k + 1) ≡ 128 * 128 ^ k = rw (add-one k, pow-suc 128 k) (mul_comm (128 ^ k) 128) in
    let high : var_uint_size n ≤ k + 1 = size_least n (k + 1) (omega arith) (omega arith) in
    by_case (ltb (var_uint_size n) (k + 1))
    (λ t.
    let s : var_uint_size n < k + 1 = ltb-true (var_uint_size n) (k + 1) t in
    let few : var_uint_size n ≤ 9 =
    by_case (ltb 9 k)
    (λ u.
    let r : 128 ^ 10 ≤ 128 ^ k = pow-le-pow_right {n = 128} (omega arith) {i = 10} {j = k} (omega (arith, ltb-true 9 k u)) in
    absurd (omega arith))
    (λ u. omega (arith, ltb-false 9 k u)) in
    let p : 128 ^ 1 ≤ 128 ^ var_uint_size n = pow-le-pow_right {n = 128} (omega arith) {i = 1} {j = var_uint_size n} (size_low n) in
    let q : 128 ^ var_uint_size n ≤ 128 ^ k = pow-le-pow_right {n = 128} (omega arith) {i = var_uint_size n} {j = k} (omega arith) in
    absurd (omega (arith, size_enough n few)))
    (λ t. omega (arith, ltb-false (var_uint_size n) (k + 1) t))

-- no byte leaves all, and one more leaves less
pub no_power : (n : ℕ) → n ≡ n / 128 ^ 0
no_power n = sym (div-one n)

pub next_power : (n k : ℕ) → n / 128 ^ k / 128 ≡ n / 128 ^ (k + 1)
next_power n k = div-div-eq-div-mul n (128 ^ k) 128 ∙ ap (λ (p : ℕ). n / p) (sym (pow-suc 128 k) ∙ ap (λ (j : ℕ). 128 ^ j) (sym (add-one k)))

pub var_uint_past : VarUIntPast
var_uint_past n h =
    by_case (ltb 9 (var_uint_size n)) (λ b. ltb-true 9 (var_uint_size n) b) (λ b.
    let few : var_uint_size n ≤ 9 = ltb-false 9 (var_uint_size n) b in
    let p : 128 ^ var_uint_size n ≤ 128 ^ 9 = pow-le-pow_right {n = 128} (omega arith) {i = var_uint_size n} {j = 9} few in
    let m : n < 2 ^ 63 = lt_of_lt_of_le (size_enough n few) p in
    absurd (omega arith))

some_bytes : {bs : List ℕ} → VarBytes bs → 1 ≤ length bs
some_bytes (last h) = omega arith
some_bytes (more h r) = omega arith

pub var-uint-shortest : VarUIntShortest
unfolding var_uint_of
var-uint-shortest bs v =
    size_least (var_uint_of bs) (length bs) (some_bytes v) (rw (← length-map bs low_seven) (digits_below (lows_below bs)))

pub var_uint_grows : VarUIntGrows
var_uint_grows m n h =
    by_case (ltb 9 (var_uint_size n)) (λ b. omega (arith, ltb-true 9 (var_uint_size n) b, size_high m)) (λ b.
    let few : var_uint_size n ≤ 9 = ltb-false 9 (var_uint_size n) b in
    size_least m (var_uint_size n) (size_low n) (omega (arith, size_enough n few)))

-- ---- UInts

big_size : (k n : ℕ) → length (big_endian k n) ≡ k
unfolding big_endian
big_size zero n = refl
big_size (suc k) n = ap suc (big_size k n)

big_worth : (k n : ℕ) → uint_of (big_endian k n) ≡ n % 256 ^ k
unfolding big_endian uint_of of_digits
big_worth zero n = rw (pow-zero 256) (omega arith)
big_worth (suc k) n =
    let p : ℕ = 256 ^ k in
    ap (λ (x : ℕ). n / p % 256 * 256 ^ x + uint_of (big_endian k n)) (big_size k n)
    ∙ ap (λ (x : ℕ). n / p % 256 * p + x) (big_worth k n)
    ∙ sym (digit_left 256 n p (omega arith) (positive 256 k (omega arith)))
    ∙ ap (λ (x : ℕ). n % x) (sym (pow-suc 256 k))

pub uint_written : UIntWritten
uint_written k n = record { size = big_size k n; worth = λ h. big_worth k n ∙ mod-eq_of_lt h }
