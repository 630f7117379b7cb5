-- Powers of ten: whether a number reaches one.
-- Assumes nothing.
use Prim.Native.Nat.{ℕ, ◌+◌, ◌*◌, ◌^◌, ◌≤◌, ◌<◌}
use native.Mathlib.Omega.{arith}
use native.Mathlib.Numerals.{add-one}
use native.Mathlib.Nat.{pow-suc, pow-le-pow_right}
use mathlib.Core.Path.{◌≡◌, sym}
use mathlib.Core.Bool.{false}
use lib.Dec.{leb}
use borrow.Author.Tests.{le-leb, lt-leb, leb-true, leb-false}
use Rattle.numbers.proofs.Outcomes.{by_case}

-- a power of ten is at least 1
pub power_positive : (n : ℕ) → 1 ≤ 10 ^ n
power_positive n = pow-le-pow_right {n = 10} (omega arith) {i = 0} {j = n} (omega arith)

-- zero reaches none
pub below_power : (n x : ℕ) → x ≡ 0 → leb (10 ^ n) x ≡ false
below_power n x e = lt-leb (10 ^ n) x (omega (arith, power_positive n))

-- by the greatest power of ten that a number is at least
pub by_power : (n x k : ℕ) → 10 ^ k ≤ x → x < 10 * 10 ^ k → leb n k ≡ leb (10 ^ n) x
by_power n x k l h =
    by_case (leb n k)
    (λ t.
    let p : 10 ^ n ≤ 10 ^ k = pow-le-pow_right {n = 10} (omega arith) {i = n} {j = k} (leb-true n k t) in
    rw t (sym (le-leb (10 ^ n) x (omega arith))))
    (λ t.
    let e : 10 ^ (k + 1) ≡ 10 ^ k * 10 = rw (add-one k) (pow-suc 10 k) in
    let p : 10 ^ (k + 1) ≤ 10 ^ n = pow-le-pow_right {n = 10} (omega arith) {i = k + 1} {j = n} (omega (arith, leb-false n k t)) in
    rw t (sym (lt-leb (10 ^ n) x (omega arith))))
