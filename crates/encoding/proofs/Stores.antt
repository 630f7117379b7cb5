-- Runs of stores into a buffer: what lies past its end is left out, and one run behind another is the run of both; and how bytes, digits and heads are put.
-- Assumes nothing.
use Prim.Native.Nat.{ℕ, suc, min, ◌+◌, ◌-◌, ◌*◌, ◌/◌, ◌%◌, ◌^◌, ◌≤◌, ◌<◌}
use native.Mathlib.Omega.{arith}
use native.Mathlib.Numerals.{add-one}
use mathlib.Core.Path.{◌≡◌, refl, ◌∙◌, sym, ap}
use mathlib.Core.List.{List, [], ◌∷◌, ◌++◌}
use lib.Dec.{ltb}
use lib.ListN.{length, get_or, set, drop, drop_of_length-le}
use lib.Seq.{sets, set_out, drop-cons}
use borrow.Author.Tests.{ltb-true, ltb-false}
use Rattle.numbers.proofs.Outcomes.{by_case}
use Rattle.encoding.specs.Fields.{var_uint_in, var_uint_bytes}
use Rattle.encoding.specs.Heads.{head_bytes}
use Rattle.encoding.proofs.VarUInts.{in_first, in_last}
use Rattle.encoding.proofs.Heads.{bytes_short, bytes_long}

-- nothing is stored past the end
pub sets_out : (l : List ℕ) (i : ℕ) (vs : List ℕ) → length l ≤ i → sets l i vs ≡ l
sets_out l i [] h = refl
sets_out l i (v ∷ vs) h =
    ap (λ (x : List ℕ). sets x (suc i) vs) (set_out l i v h) ∙ sets_out l (suc i) vs (omega arith)

pub sets_more : (l : List ℕ) (i : ℕ) (xs ys : List ℕ) → sets l i (xs ++ ys) ≡ sets (sets l i xs) (i + length xs) ys
sets_more l i [] ys = ap (λ (j : ℕ). sets l j ys) (let e : i ≡ i + 0 = omega arith in e)
sets_more l i (x ∷ xs) ys =
    sets_more (set l i x) (suc i) xs ys
    ∙ ap (λ (j : ℕ). sets (sets (set l i x) (suc i) xs) j ys) (let e : suc i + length xs ≡ i + length (x ∷ xs) = omega arith in e)

-- ---- bytes from i on, of which as many are stored as fit

pub bytes_stored : (l from : List ℕ) (at i : ℕ) → i < length from → sets (set l (at + i) (get_or from i 0)) (at + (i + 1)) (drop (i + 1) from) ≡ sets l (at + i) (drop i from)
bytes_stored l from at i h =
    let e : at + (i + 1) ≡ (at + i) + 1 = omega arith in
    rw (e, add-one (at + i), add-one i, drop-cons from i 0 h)

pub bytes_over : (l from : List ℕ) (at i : ℕ) → min (length from) (length l - at) ≤ i → sets l (at + i) (drop i from) ≡ l
bytes_over l from at i h =
    by_case (ltb i (length from)) (λ b. sets_out l (at + i) (drop i from) (omega (arith, ltb-true i (length from) b)))
    (λ b. ap (sets l (at + i)) (drop_of_length-le from {i = i} (ltb-false i (length from) b)))

pub digits_stored : (l : List ℕ) (at i k n : ℕ) → i < k → sets (set l (at + i) (n / 128 ^ (k - i) % 128)) (at + (i + 1)) (var_uint_in (k - (i + 1)) n) ≡ sets l (at + i) (var_uint_in (k - i) n)
digits_stored l at i k n h =
    let e : at + (i + 1) ≡ (at + i) + 1 = omega arith in
    let f : k - (i + 1) ≡ k - i - 1 = omega arith in
    rw (e, f, add-one (at + i), in_first (k - i) n (omega arith))

pub digits_over : (l : List ℕ) (at i k n : ℕ) → min k (length l - at) ≤ i → i ≤ k → set l (at + i) (128 + n % 128) ≡ sets l (at + i) (var_uint_in (k - i) n)
digits_over l at i k n h m =
    by_case (ltb i k)
    (λ b.
    let o : length l ≤ at + i = omega (arith, ltb-true i k b) in
    set_out l (at + i) (128 + n % 128) o ∙ sym (sets_out l (at + i) (var_uint_in (k - i) n) o))
    (λ b.
    let z : k - i ≡ 0 = omega (arith, ltb-false i k b) in
    rw (z, in_last n))

-- a head, by where its length stands
pub short_stored : (l : List ℕ) (i type n : ℕ) → n < 14 → set l i (type * 16 + n) ≡ sets l i (head_bytes type n)
short_stored l i type n h = ap (sets l i) (sym (bytes_short type n h))

pub long_stored : (l : List ℕ) (i type n : ℕ) → 14 ≤ n → sets (set l i (type * 16 + 14)) (i + 1) (var_uint_bytes n) ≡ sets l i (head_bytes type n)
long_stored l i type n h = rw (add-one i, bytes_long type n h)
