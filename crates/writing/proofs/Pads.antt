-- A pad as it is written: how many bytes its length field has, and that it has the size asked for.
-- Assumes nothing.
use Prim.Native.Nat.{ℕ, suc, ◌+◌, ◌-◌, ◌^◌, ◌≤◌, ◌<◌}
use native.Mathlib.Omega.{arith}
use native.Mathlib.Nat.{pow-le-pow_right, lt_of_lt_of_le}
use native.Mathlib.Numerals.{add-one}
use borrow.Author.Tests.{ltb-true, ltb-false, lt-ltb, le-ltb, eqb-false}
use mathlib.Core.Path.{◌≡◌, ◌∙◌, sym, ap}
use mathlib.Core.Bool.{Bool, false, true≢false}
use mathlib.Core.List.{List, [], ◌∷◌, ◌++◌}
use mathlib.Core.List.{append_assoc}
use lib.ListN.{length, get_or, take, drop, replicate, length-append, length-replicate}
use lib.Seq.{sets, sets-eq, length-sets}
use borrow.Rule.Slice.PartMut.{put_mid}
use Rattle.std.proofs.lemmas.Grind.{same_number_lists}
use Rattle.std.proofs.lemmas.List.{get_or-replicate, drop-drop, places}
use lib.Dec.{ltb, eqb}
use Rattle.numbers.proofs.Outcomes.{by_test, by_case}
use Rattle.encoding.specs.Fields.{var_uint_in, fewest, var_uint_size}
use Rattle.encoding.proofs.VarUInts.{var_uint_written, fewest_low, size_least, size_enough}
use Rattle.encoding.proofs.Stores.{sets_more}
use Rattle.writing.proofs.Lengths.{stored}
use Rattle.writing.specs.Things.{pad_field, pad_head, pad_bytes}
use Rattle.writing.specs.Answers.{no_pad}

-- what a pad's length field of k bytes tells
abbrev pub length_by : ℕ → ℕ → ℕ
length_by size k = size - 1 - k

-- k bytes tell what has k bytes at least
below : (n k : ℕ) → k ≤ 9 → var_uint_size n ≤ k → n < 128 ^ k
below n k l h = lt_of_lt_of_le (size_enough n (omega arith)) (pow-le-pow_right (omega arith) h)

pub field_none : (size : ℕ) → size < 15 → pad_field size ≡ 0
unfolding pad_field
field_none size h = rw (lt-ltb size 15 h)

pub field_from : (size : ℕ) → 15 ≤ size → pad_field size ≡ fewest 9 1 (length_by size)
unfolding pad_field
field_from size h = rw (le-ltb size 15 h)

-- the fewest from k on: k, or those from k + 1 on
pub field_hit : (size k : ℕ) → k ≤ 9 → var_uint_size (length_by size k) ≤ k → fewest (10 - k) k (length_by size) ≡ k
unfolding fewest
field_hit size k l h =
    let e : 10 - k ≡ suc (9 - k) = omega arith in
    rw (e, lt-ltb (length_by size k) (128 ^ k) (below (length_by size k) k l h))

pub field_on : (size k : ℕ) → 1 ≤ k → k ≤ 9 → k < var_uint_size (length_by size k) → fewest (10 - k) k (length_by size) ≡ fewest (10 - (k + 1)) (k + 1) (length_by size)
unfolding fewest
field_on size k m l h =
    let e : 10 - k ≡ suc (10 - (k + 1)) = omega arith in
    let p : 128 ^ k ≤ length_by size k = by_case (ltb (length_by size k) (128 ^ k)) (λ q. absurd (omega (arith, size_least (length_by size k) k m (ltb-true (length_by size k) (128 ^ k) q)))) (λ q. ltb-false (length_by size k) (128 ^ k) q) in
    rw (e, le-ltb (length_by size k) (128 ^ k) p, add-one k)

pub field_end : (size k : ℕ) → 9 < k → k ≤ 10 → fewest (10 - k) k (length_by size) ≡ k
unfolding fewest
field_end size k h l = let e : 10 - k ≡ 0 = omega arith in rw e

-- a pad of 15 bytes or more has a field
pub field_some : (size : ℕ) → 15 ≤ size → 1 ≤ pad_field size
field_some size h = omega (arith, field_from size h, fewest_low (length_by size) 9 1)

-- ---- what 71 says

pub pad_some : (size : ℕ) → no_pad size ≡ false → 0 < size
unfolding no_pad
pad_some size = by_test (λ (b : Bool). b ≡ false → 0 < size) (eqb size 0) (λ _ e. absurd (true≢false e)) (λ h _. omega (arith, eqb-false size 0 h))

pub pad_few : (size : ℕ) → no_pad size ≡ false → pad_field size ≤ 9
unfolding no_pad
pad_few size = by_test (λ (b : Bool). b ≡ false → pad_field size ≤ 9) (eqb size 0) (λ _ e. absurd (true≢false e)) (λ _ e. ltb-false 9 (pad_field size) e)

-- what goes before a pad's body fits into it
pub field_small : (size : ℕ) → no_pad size ≡ false → 1 + pad_field size ≤ size
field_small size h =
    by_case (ltb size 15) (λ e. omega (arith, field_none size (ltb-true size 15 e), pad_some size h))
    (λ e. omega (arith, pad_few size h, ltb-false size 15 e))

-- ---- its bytes

pub pad_short : (size : ℕ) → size < 15 → pad_bytes size ≡ (size - 1) ∷ replicate (size - 1) 0
unfolding pad_bytes pad_head
pad_short size h =
    let z : size - 1 - 0 ≡ size - 1 = omega arith in
    rw (lt-ltb size 15 h, field_none size h, z)

pub pad_long : (size : ℕ) → 15 ≤ size → pad_bytes size ≡ 14 ∷ (var_uint_in (pad_field size - 1) (length_by size (pad_field size)) ++ replicate (length_by size (pad_field size)) 0)
unfolding pad_bytes pad_head
pad_long size h = rw (le-ltb size 15 h)

pub field_length : (size n : ℕ) → 15 ≤ size → length (var_uint_in (pad_field size - 1) n) ≡ pad_field size
field_length size n h = (var_uint_written (pad_field size - 1) n).size ∙ (let m : 1 ≤ pad_field size = field_some size h in omega arith)

pub pad_length : (size : ℕ) → no_pad size ≡ false → length (pad_bytes size) ≡ size
pad_length size h =
    by_case (ltb size 15)
    (λ e. ap length (pad_short size (ltb-true size 15 e)) ∙ omega (arith, length-replicate {A = ℕ} (size - 1) 0, pad_some size h))
    (λ e.
    let l : 15 ≤ size = ltb-false size 15 e in
    let v : List ℕ = var_uint_in (pad_field size - 1) (length_by size (pad_field size)) in
    ap length (pad_long size l)
    ∙ omega (arith, length-append v (replicate (length_by size (pad_field size)) 0), field_length size (length_by size (pad_field size)) l, length-replicate {A = ℕ} (length_by size (pad_field size)) 0, pad_few size h))

-- ---- stores

pub head_short : (size : ℕ) → size < 15 → pad_head size ≡ (size - 1) ∷ []
unfolding pad_head
head_short size h = rw (lt-ltb size 15 h)

pub head_long : (size : ℕ) → 15 ≤ size → pad_head size ≡ 14 ∷ var_uint_in (pad_field size - 1) (length_by size (pad_field size))
unfolding pad_head
head_long size h = rw (le-ltb size 15 h)

head_length : (size : ℕ) → length (pad_head size) ≡ 1 + pad_field size
head_length size =
    by_case (ltb size 15)
    (λ e. let l : size < 15 = ltb-true size 15 e in ap length (head_short size l) ∙ ap (λ (k : ℕ). 1 + k) (sym (field_none size l)))
    (λ e. let l : 15 ≤ size = ltb-false size 15 e in omega (arith, ap length (head_long size l), field_length size (length_by size (pad_field size)) l))

-- a list of zeros, by its elements
zeros : (xs : List ℕ) (n : ℕ) → length xs ≡ n → ((k : ℕ) → k < n → get_or xs k 0 ≡ 0) → xs ≡ replicate n 0
zeros xs n l h = same_number_lists xs (replicate n 0) (l ∙ sym (length-replicate n 0)) (λ k b. h k (omega arith) ∙ sym (get_or-replicate n k 0 0 (omega arith)))

-- what is written over n elements from a on
put_mid_is : (xs ys : List ℕ) (a n : ℕ) → length ys ≡ n → put_mid a n xs ys ≡ take a xs ++ ys ++ drop (a + length ys) xs
put_mid_is xs ys a n l = ap (λ (x : List ℕ). take a xs ++ (ys ++ x)) (drop-drop n a xs ∙ ap (λ (j : ℕ). drop (a + j) xs) (sym l)) ∙ sym (append_assoc (take a xs) ys (drop (a + length ys) xs))

pub pad_stored : (old filled : List ℕ) (size field : ℕ) → no_pad size ≡ false → field ≡ pad_field size → size ≤ length old → length filled ≡ size - (1 + field) → ((k : ℕ) → k < size - (1 + field) → get_or filled k 0 ≡ 0) → put_mid (1 + field) (size - (1 + field)) (sets old 0 (pad_head size)) filled ≡ sets old 0 (pad_bytes size)
unfolding pad_bytes
pad_stored old filled size field t e room l h =
    let n : ℕ = size - (1 + field) in
    let head : List ℕ = sets old 0 (pad_head size) in
    let m : size - 1 - pad_field size ≡ n = omega arith in
    let k : 0 + length (pad_head size) ≡ 1 + field = omega (arith, head_length size) in
    let q : length head ≡ length old = length-sets old 0 (pad_head size) in
    let z : filled ≡ replicate n 0 = zeros filled n l h in
    let small : 1 + pad_field size ≤ size = field_small size t in
    put_mid_is head filled (1 + field) n l
    ∙ sym (sets-eq filled head (1 + field) (omega arith))
    ∙ ap (sets head (1 + field)) z
    ∙ sym (sets_more old 0 (pad_head size) (replicate (size - 1 - pad_field size) 0) ∙ ap (λ (j : ℕ). sets head j (replicate (size - 1 - pad_field size) 0)) k ∙ ap (λ (j : ℕ). sets head (1 + field) (replicate j 0)) m)

-- ---- what each function's goals take

pub ruleset fields = (field_none, field_from, field_hit, field_on, field_end)

pub ruleset heads = (pad_some, pad_few, field_some, head_short, head_long)

pub ruleset puts = (pad_few, field_small, pad_stored, places)

pub ruleset stores = (pad_length, stored)
