-- Laws of outcomes that follow a definition line by line: what a test, a refusal and a sequence of readings keep.
-- Assumes nothing.
use Prim.Native.Nat.{ℕ, ◌≤◌, ◌<◌}
use native.Mathlib.Omega.{arith}
use mathlib.Core.Path.{◌≡◌, refl, ◌∙◌, sym, ap, subst}
use mathlib.Core.Bool.{Bool, true, false, true≢false}
use mathlib.Core.Logic.{◌⊎◌, inl, inr}
use mathlib.Core.List.{List}
use lib.ListN.{length}
use lib.Dec.{ltb}
use borrow.Author.Tests.{le-ltb, ltb-true, ltb-false}
use Rattle.numbers.specs.Outcome.{Outcome, gives, refuses, pick, refuse_if, and_then, within, outside_of}

-- a property of a choice: of each case under its test
pub by_test : {A : Type 0} (P : A → Type 0) (t : Bool) {x y : A} → (t ≡ true → P x) → (t ≡ false → P y) → P (pick t x y)
by_test P true h k = h refl
by_test P false h k = k refl

-- by cases of a test
pub by_case : {X : Type 0} (t : Bool) → (t ≡ true → X) → (t ≡ false → X) → X
by_case true h k = h refl
by_case false h k = k refl

-- a property of an outcome with a test: of the refusal and of what comes after it
pub by_refusal : {A : Type 0} (P : Outcome A → Type 0) (t : Bool) (n p : ℕ) {o : Outcome A} → (t ≡ true → P (refuses n p)) → (t ≡ false → P o) → P (refuse_if t n p o)
by_refusal P true n p h k = h refl
by_refusal P false n p h k = k refl

-- two outcomes with one test, where what comes after it is the same
pub refuse_same : {A : Type 0} (t : Bool) (n p : ℕ) {o o' : Outcome A} → (t ≡ false → o ≡ o') → refuse_if t n p o ≡ refuse_if t n p o'
refuse_same true n p h = refl
refuse_same false n p h = h refl

-- two choices by one test
pub pick_same : {A : Type 0} (t : Bool) {x x' y y' : A} → (t ≡ true → x ≡ x') → (t ≡ false → y ≡ y') → pick t x y ≡ pick t x' y'
pick_same true h k = h refl
pick_same false h k = k refl

-- a test before a reading comes before what is made of it
pub refuse_first : {A B : Type 0} (t : Bool) (n p : ℕ) (o : Outcome A) (f : A → Outcome B) → and_then (refuse_if t n p o) f ≡ refuse_if t n p (and_then o f)
refuse_first true n p o f = refl
refuse_first false n p o f = refl

-- what the test for 50 says
pub inside : (s : List ℕ) (at end : ℕ) → at ≤ end → end ≤ length s → outside_of s at end ≡ false
unfolding outside_of
inside s at end h k = rw (le-ltb end at h, le-ltb (length s) end k)

pub inside_order : (s : List ℕ) (at end : ℕ) → outside_of s at end ≡ false → at ≤ end
unfolding outside_of
inside_order s at end = by_test (λ b. b ≡ false → at ≤ end) (ltb end at) (λ _ e. absurd (true≢false e)) (λ h _. ltb-false end at h)

pub inside_end : (s : List ℕ) (at end : ℕ) → outside_of s at end ≡ false → end ≤ length s
unfolding outside_of
inside_end s at end = by_test (λ b. b ≡ false → end ≤ length s) (ltb end at) (λ _ e. absurd (true≢false e)) (λ _ e. ltb-false (length s) end e)

-- past a test for 50 that is not met, the part is one of the slice
pub in_part : (s : List ℕ) (at end : ℕ) {t : Bool} → t ≡ outside_of s at end → t ≡ false → (at ≤ end) × (end ≤ length s)
in_part s at end e h = let k : outside_of s at end ≡ false = sym e ∙ h in (inside_order s at end k, inside_end s at end k)

pub outside_cases : (s : List ℕ) (at end : ℕ) → outside_of s at end ≡ true → (end < at) ⊎ (length s < end)
unfolding outside_of
outside_cases s at end =
    by_test (λ b. b ≡ true → (end < at) ⊎ (length s < end)) (ltb end at) (λ h _. inl (ltb-true end at h)) (λ _ e. inr (ltb-true (length s) end e))

-- in a part of the slice a reading is not refused with 50
pub within_part : {A : Type 0} (s : List ℕ) (at end : ℕ) {o : Outcome A} → at ≤ end → end ≤ length s → within s at end o ≡ o
within_part s at end h k = rw (inside s at end h k)

-- P holds of what is given; of a refusal nothing is said
pub data Each {A : Type 0} (P : A → Type 0) : Outcome A → Type 0 where
  given : {a : A} → P a → Each P (gives a)
  refused : {n p : ℕ} → Each P (refuses n p)

pub each_refuse : {A : Type 0} {P : A → Type 0} (t : Bool) (n p : ℕ) {o : Outcome A} → (t ≡ false → Each P o) → Each P (refuse_if t n p o)
each_refuse true n p h = refused
each_refuse false n p h = h refl

pub each_pick : {A : Type 0} {P : A → Type 0} (t : Bool) {x y : Outcome A} → (t ≡ true → Each P x) → (t ≡ false → Each P y) → Each P (pick t x y)
each_pick true h k = h refl
each_pick false h k = k refl

pub each_within : {A : Type 0} {P : A → Type 0} (s : List ℕ) (at end : ℕ) {o : Outcome A} → (at ≤ end → end ≤ length s → Each P o) → Each P (within s at end o)
each_within s at end h = each_refuse (outside_of s at end) 50 0 (λ e. h (inside_order s at end e) (inside_end s at end e))

pub each_then : {A B : Type 0} {P : A → Type 0} {Q : B → Type 0} {o : Outcome A} {f : A → Outcome B} → Each P o → ((a : A) → P a → Each Q (f a)) → Each Q (and_then o f)
each_then (given {a} p) h = h a p
each_then refused h = refused

pub each_of : {A : Type 0} {P : A → Type 0} {o : Outcome A} {a : A} → Each P o → o ≡ gives a → P a
each_of {A} {P} {o} {a} (given {a = b} p) e = let q : b ≡ a = cc in subst P q p
each_of refused e = absurd (let z : ◌≡◌ {A = ℕ} 0 1 = cc in omega arith)

pub each_map : {A : Type 0} {P Q : A → Type 0} {o : Outcome A} → Each P o → ((a : A) → P a → Q a) → Each Q o
each_map (given {a} p) h = given (h a p)
each_map refused h = refused

pub each_both : {A : Type 0} {P Q : A → Type 0} {o : Outcome A} → Each P o → Each Q o → Each (λ a. P a × Q a) o
each_both {o = gives a} p q = given (each_of p refl, each_of q refl)
each_both {o = refuses n m} p q = refused

pub each_if : {A : Type 0} {P : A → Type 0} (o : Outcome A) → ((a : A) → o ≡ gives a → P a) → Each P o
each_if (gives a) h = given (h a refl)
each_if (refuses n p) h = refused

-- what is made of a callee's answer, where the answer is known to be u and to be read as o
pub then_by : {A B U : Type 0} (read : U → Outcome A) {x u : U} {o : Outcome A} (f : A → Outcome B) → x ≡ u → read x ≡ o → and_then (read u) f ≡ and_then o f
then_by read f p q = ap (λ v. and_then (read v) f) (sym p) ∙ ap (λ o. and_then o f) q

then_each : {A B : Type 0} {P : A → Type 0} {o : Outcome A} {f g : A → Outcome B} → Each P o → ((a : A) → P a → f a ≡ g a) → and_then o f ≡ and_then o g
then_each (given {a} p) h = h a p
then_each refused h = refl

-- two sequences of readings, where the first reading is the same and so is what is made of whatever it gives
pub then_same : {A B : Type 0} {P : A → Type 0} {o o' : Outcome A} {f g : A → Outcome B} → Each P o → o ≡ o' → ((a : A) → P a → f a ≡ g a) → and_then o f ≡ and_then o' g
then_same {g = g} e q h = then_each e h ∙ ap (λ x. and_then x g) q

-- back from what is given: each test passed, and each reading gave
-- the second of two continuations may be taken with the first
pub then_then : {A B C : Type 0} (o : Outcome A) (f : A → Outcome B) (g : B → Outcome C) → and_then (and_then o f) g ≡ and_then o (λ a. and_then (f a) g)
then_then (gives a) f g = refl
then_then (refuses n p) f g = refl

-- continuations that agree everywhere
pub then_like : {A B : Type 0} (o : Outcome A) {f g : A → Outcome B} → ((a : A) → f a ≡ g a) → and_then o f ≡ and_then o g
then_like (gives a) e = e a
then_like (refuses n p) e = refl

pub refuse_gives : {A : Type 0} (t : Bool) (n p : ℕ) {o : Outcome A} {a : A} → refuse_if t n p o ≡ gives a → (t ≡ false) × (o ≡ gives a)
refuse_gives true n p h = absurd (let z : ◌≡◌ {A = ℕ} 0 1 = cc in omega arith)
refuse_gives false n p h = (refl, h)

pub then_gives : {A B : Type 0} (o : Outcome A) (f : A → Outcome B) {b : B} → and_then o f ≡ gives b → (a : A) × (o ≡ gives a) × (f a ≡ gives b)
then_gives (gives a) f h = (a, refl, h)
then_gives (refuses n p) f h = absurd (let z : ◌≡◌ {A = ℕ} 0 1 = cc in omega arith)

-- an outcome that is no refusal 50, where nothing is said of what is given
pub data Proper {A : Type 0} : Outcome A → Type 0 where
  gave : {a : A} → Proper (gives a)
  other : {n p : ℕ} → (n ≡ 50 → ⊥) → Proper (refuses n p)

pub proper_refuse : {A : Type 0} (t : Bool) (n p : ℕ) {o : Outcome A} → (n ≡ 50 → ⊥) → (t ≡ false → Proper o) → Proper (refuse_if t n p o)
proper_refuse true n p d h = other d
proper_refuse false n p d h = h refl

pub proper_pick : {A : Type 0} (t : Bool) {x y : Outcome A} → Proper x → Proper y → Proper (pick t x y)
proper_pick true h k = h
proper_pick false h k = k

pub proper_within : {A : Type 0} (s : List ℕ) (at end : ℕ) {o : Outcome A} → at ≤ end → end ≤ length s → Proper o → Proper (within s at end o)
proper_within s at end h k r = rw (inside s at end h k) r

pub proper_then : {A B : Type 0} {P : A → Type 0} {o : Outcome A} {f : A → Outcome B} → Each P o → Proper o → ((a : A) → P a → Proper (f a)) → Proper (and_then o f)
proper_then (given {a} p) r h = h a p
proper_then refused (other d) h = other d
