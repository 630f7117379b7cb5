-- Numbers of at most 8 bytes: the bytes before a place, as a number, take the bytes from there on behind them.
-- Assumes nothing.
use Prim.Native.Nat.{ℕ, zero, suc, ◌+◌, ◌-◌, ◌*◌, ◌^◌, ◌≤◌, ◌<◌}
use native.Mathlib.Omega.{arith}
use native.Mathlib.Numerals.{add-one}
use native.Mathlib.Nat.{pow-suc, mul_assoc, add-mul, pow-le-pow_right, lt_of_lt_of_le, mul-le-mul_left, mul-le-mul_right}
use mathlib.Core.Path.{◌≡◌, refl, ◌∙◌, sym, ap}
use mathlib.Core.List.{List, [], ◌∷◌, ◌++◌}
use lib.ListN.{length, get_or, take, drop, length-append, length-drop}
use Rattle.std.proofs.lemmas.Nat.{pow-add}
use Rattle.std.proofs.lemmas.List.{take-append-drop}
use lib.Seq.{take-suc}
use lib.Dec.{ltb}
use borrow.Author.Tests.{le-ltb}
use Rattle.numbers.specs.Format.{uint_of, of_digits}
use Rattle.numbers.specs.Bytes.{part, Same}
use Rattle.numbers.specs.Outcome.{outside_of}
use Rattle.numbers.proofs.Outcomes.{inside, pick_same, inside_end}
use Rattle.numbers.proofs.Parts.{part_cons, part_none, part_length, part_same}
use Rattle.numbers.proofs.Digits.{Below, none, digit, digits_below}
use Rattle.numbers.proofs.Locality.{outside_local}
use Rattle.bodies.specs.Uint.{uint_in}

-- n bytes and one more are below 256 ^ (n + 1), which is at most 2 ^ 64 for eight
pub byte_more : (v b n : ℕ) → v < 256 ^ n → b < 256 → v * 256 + b < 256 ^ (n + 1)
byte_more v b n h k = rw (add-one n, pow-suc 256 n) (omega arith)

pub byte_fits : (v b n : ℕ) → v < 256 ^ n → b < 256 → n < 8 → v * 256 + b < 2 ^ 64
byte_fits v b n h k l =
    lt_of_lt_of_le (byte_more v b n h k) (pow-le-pow_right {n = 256} (omega arith) {i = n + 1} {j = 8} (omega arith))

pub uint_inside : (s : List ℕ) (at end : ℕ) → at ≤ end → end ≤ length s → end - at ≤ 8 → uint_in s at end ≡ uint_of (part s at end)
unfolding uint_in
uint_inside s at end h k l = rw (inside s at end h k, le-ltb 8 (end - at) l)

-- n bytes are worth less than 256 ^ n
bytes_below : (s : List ℕ) → ((i : ℕ) → get_or s i 0 < 256) → (n at end : ℕ) → at + n ≡ end → end ≤ length s → Below 256 (part s at end)
bytes_below s b zero at end e k = let d : at ≡ end = omega arith in rw (d, part_none s end) none
bytes_below s b (suc n) at end e k =
    rw (part_cons s at end (omega arith) k) (digit (b at) (bytes_below s b n (at + 1) end (omega arith) k))

pub uint_below : (s : List ℕ) → ((i : ℕ) → get_or s i 0 < 256) → (at end : ℕ) → at ≤ end → end ≤ length s → uint_of (part s at end) < 256 ^ (end - at)
unfolding uint_of
uint_below s b at end h k = rw (← part_length s at end k) (digits_below (bytes_below s b (end - at) at end (omega arith) k))

-- two slices of one length with the same bytes there have the same number
pub uint_local : (s t : List ℕ) (at end : ℕ) → length s ≡ length t → Same s t at end → uint_in s at end ≡ uint_in t at end
unfolding uint_in
uint_local s t at end e same =
    rw (← outside_local s t at end e)
    (pick_same (outside_of s at end) (λ _. refl) (λ o.
    pick_same (ltb 8 (end - at)) (λ _. refl) (λ _. ap uint_of (part_same s t at end e (inside_end s at end o) same))))

-- one byte more behind the others
uint_push : (bs : List ℕ) (b : ℕ) → uint_of (bs ++ b ∷ []) ≡ uint_of bs * 256 + b
unfolding uint_of of_digits
uint_push [] b = omega arith
uint_push (d ∷ bs) b =
    let e : length (bs ++ b ∷ []) ≡ suc (length bs) = length-append bs (b ∷ []) ∙ omega arith in
    rw (e, pow-suc 256 (length bs)) (let r : of_digits 256 (bs ++ b ∷ []) ≡ of_digits 256 bs * 256 + b = uint_push bs b in
    rw (r, add-mul (d * 256 ^ length bs) (of_digits 256 bs) 256, mul_assoc d (256 ^ length bs) 256) (omega arith))

-- the first i + 1 bytes, and such bytes behind a first digit
pub uint_next : (bs : List ℕ) (i : ℕ) → i < length bs → uint_of (take i bs) * 256 + get_or bs i 0 ≡ uint_of (take (i + 1) bs)
uint_next bs i h = rw (add-one i, take-suc bs i 0 h) (sym (uint_push (take i bs) (get_or bs i 0)))

pub digits_next : (d : ℕ) (bs : List ℕ) (i : ℕ) → i < length bs → of_digits 256 (d ∷ take i bs) * 256 + get_or bs i 0 ≡ of_digits 256 (d ∷ take (i + 1) bs)
unfolding uint_of
digits_next d bs i h = rw (add-one i, take-suc bs i 0 h) (sym (uint_push (d ∷ take i bs) (get_or bs i 0)))

pub digits_one : (d : ℕ) → d ≡ of_digits 256 (d ∷ [])
unfolding of_digits
digits_one d = omega arith

-- bytes behind others make them worth no less than 256 times as much
digits_behind : (xs ys : List ℕ) → of_digits 256 xs * 256 ^ length ys ≤ of_digits 256 (xs ++ ys)
unfolding of_digits
digits_behind [] ys = omega arith
digits_behind (d ∷ xs) ys =
    let e : 256 ^ length (xs ++ ys) ≡ 256 ^ length xs * 256 ^ length ys = ap (λ (n : ℕ). 256 ^ n) (length-append xs ys) ∙ pow-add 256 (length xs) (length ys) in
    rw (e, add-mul (d * 256 ^ length xs) (of_digits 256 xs) (256 ^ length ys), mul_assoc d (256 ^ length xs) (256 ^ length ys))
    (omega (arith, digits_behind xs ys))

pub digits_large : (d : ℕ) (bs : List ℕ) (i : ℕ) → i < length bs → 256 ^ 8 ≤ of_digits 256 (d ∷ take i bs) * 256 → 256 ^ 8 ≤ of_digits 256 (d ∷ bs)
digits_large d bs i h l =
    let v : ℕ = of_digits 256 (d ∷ take i bs) in
    let n : ℕ = length (drop i bs) in
    let p : 256 ^ 1 ≤ 256 ^ n = pow-le-pow_right {n = 256} (omega arith) {i = 1} {j = n} (omega (arith, length-drop i bs)) in
    let q : v * 256 ^ 1 ≤ v * 256 ^ n = mul-le-mul_left v p in
    let r : v * 256 ^ n ≤ of_digits 256 (d ∷ (take i bs ++ drop i bs)) = digits_behind (d ∷ take i bs) (drop i bs) in
    let e : of_digits 256 (d ∷ (take i bs ++ drop i bs)) ≡ of_digits 256 (d ∷ bs) = ap (λ (l : List ℕ). of_digits 256 (d ∷ l)) (take-append-drop i bs) in
    omega arith

pub uint_none : uint_of [] ≡ 0
unfolding uint_of of_digits
uint_none = refl

-- v, with the bytes after it
unfoldable pub before : ℕ → List ℕ → ℕ
before v bs = v * 256 ^ length bs + uint_of bs

-- the bytes of a number behind its first digit
pub before_digits : (v : ℕ) (bs : List ℕ) → of_digits 256 (v ∷ bs) ≡ before v bs
unfolding before uint_of of_digits
before_digits v bs = refl

-- from 2 ^ 56 up, one byte more makes 2 ^ 64
pub before_large : (s : List ℕ) (v at end : ℕ) → at < end → end ≤ length s → 256 ^ 7 ≤ v → 256 ^ 8 ≤ before v (part s at end)
unfolding before
before_large s v at end h k l =
    let n : ℕ = length (part s at end) in
    let m : 1 ≤ n = omega (arith, part_length s at end k) in
    let p : 256 ^ 1 ≤ 256 ^ n = pow-le-pow_right {n = 256} (omega arith) {i = 1} {j = n} m in
    let q : 256 ^ 7 * 256 ^ n ≤ v * 256 ^ n = mul-le-mul_right (256 ^ n) l in
    omega arith
