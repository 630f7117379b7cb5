-- A reading depends only on the bytes that it looks at, whatever it answers: two slices of one length with the same bytes there give the same answer.
-- Assumes nothing.
use Prim.Native.Nat.{ℕ, ◌+◌, ◌-◌, ◌≤◌, ◌<◌}
use native.Mathlib.Omega.{arith}
use mathlib.Core.Path.{◌≡◌, refl, ◌∙◌, sym, ap, subst}
use mathlib.Core.List.{List}
use lib.ListN.{length, get_or}
use lib.Dec.{ltb, eqb}
use borrow.Author.Tests.{ltb-false, ltb-true, eqb-false, lt-ltb, le-ltb}
use Rattle.numbers.specs.Format.{int_negative, NumberAt}
use Rattle.numbers.specs.Outcome.{Outcome, gives, within, outside_of}
use Rattle.numbers.specs.Bytes.{Same}
use Rattle.numbers.specs.Answers.{most_bytes, Unsigned, Signed, unsigned, signed, last_byte, looked_to, var_number, var_uint, var_int, int}
use Rattle.numbers.proofs.Outcomes.{by_test, refuse_same, pick_same, inside_order, inside_end}
use Rattle.numbers.proofs.Parts.{part_same, part_cons}
use Rattle.numbers.proofs.LastByte.{last_local, last_high, last_is}
use Rattle.numbers.proofs.Meaning.{var_uint_at, var_int_at, found_at}

-- the test for 50 is the same where the lengths are
pub outside_local : (s t : List ℕ) (at end : ℕ) → length s ≡ length t → outside_of s at end ≡ outside_of t at end
unfolding outside_of
outside_local s t at end e = rw e

pub within_local : {A : Type 0} (s t : List ℕ) (at end : ℕ) {o o' : Outcome A} → length s ≡ length t → (at ≤ end → end ≤ length s → o ≡ o') → within s at end o ≡ within t at end o'
within_local {A} s t at end {o} {o'} e h =
    rw (← outside_local s t at end e) (refuse_same (outside_of s at end) 50 0 (λ a. h (inside_order s at end a) (inside_end s at end a)))

-- where there is a last byte, it is looked at; where there is none, the whole part is
pub looked_past : (s : List ℕ) (at end : ℕ) → last_byte s at end < end → looked_to s at end ≡ last_byte s at end + 1
unfolding looked_to
looked_past s at end h = rw (lt-ltb (last_byte s at end) end h)

pub looked_all : (s : List ℕ) (at end : ℕ) → end ≤ last_byte s at end → looked_to s at end ≡ end
unfolding looked_to
looked_all s at end h = rw (le-ltb (last_byte s at end) end h)

pub looked_high : (s : List ℕ) (at end : ℕ) → looked_to s at end ≤ end
unfolding looked_to
looked_high s at end =
    by_test (λ n. n ≤ end) (ltb (last_byte s at end) end) (λ h. omega (arith, ltb-true (last_byte s at end) end h)) (λ h. omega arith)

looked_each : (s : List ℕ) (at end i : ℕ) → i < end → i ≤ last_byte s at end → i < looked_to s at end
unfolding looked_to
looked_each s at end i h k =
    by_test (λ n. i < n) (ltb (last_byte s at end) end) (λ _. omega arith) (λ _. h)

module _ {A : Type 0} (cut : ℕ) (answer answer' : ℕ → A) (s t : List ℕ) (at end : ℕ) (e : length s ≡ length t) (same : Same s t at (looked_to s at end)) where
  pub number_local : ((next : ℕ) → next ≤ length s → Same s t at next → answer next ≡ answer' next) → var_number cut answer s at end ≡ var_number cut answer' t at end
  unfolding var_number
  number_local h =
      within_local s t at end e (λ a b.
      rw last
      (refuse_same (eqb l end) cut end (λ ne.
      let p : l < end = omega (arith, last_high s at end a, eqb-false l end ne) in
      refuse_same (ltb most_bytes (l + 1 - at)) 20 at (λ _.
      ap gives (h (l + 1) (omega arith) (λ i c d. same i c (looked_each s at end i (omega arith) (omega arith))))))))
    where
      l : ℕ
      l = last_byte s at end

      last : last_byte t at end ≡ l
      last = last_local s t at end l refl (λ i a b c. same i a (looked_each s at end i b c))

module _ (s t : List ℕ) (at end : ℕ) (e : length s ≡ length t) where
  pub var_uint_local : Same s t at (looked_to s at end) → var_uint s at end ≡ var_uint t at end
  unfolding var_uint
  var_uint_local same =
      number_local 3 (unsigned s at) (unsigned t at) s t at end e same (λ next h k. rw (part_same s t at next e h k))

  pub var_int_local : Same s t at (looked_to s at end) → var_int s at end ≡ var_int t at end
  unfolding var_int
  var_int_local same =
      number_local 4 (signed s at) (signed t at) s t at end e same (λ next h k. rw (part_same s t at next e h k))

  -- an Int's answer depends on its first byte alone
  pub int_local : (size : ℕ) → (at < end → get_or s at 0 ≡ get_or t at 0) → int s at end size ≡ int t at end size
  unfolding int int_negative
  int_local size same =
      within_local s t at end e (λ a b.
      pick_same (eqb size 0) (λ _. refl) (λ z.
      refuse_same (ltb (end - at) size) 9 at (λ h.
      let k : size ≤ end - at = ltb-false (end - at) size h in
      let n : at < at + size = omega (arith, eqb-false size 0 z) in
      rw (part_cons s at (at + size) n (omega arith), part_cons t at (at + size) n (omega arith), same (omega arith)))))

-- what was read ends where the reading stopped looking
looked_next : (s : List ℕ) (at end next : ℕ) → NumberAt s at end next → looked_to s at end ≡ next
looked_next s at end next n =
    let e : next ≡ l + 1 = omega (arith, n.begins) in
    let q : last_byte s at end ≡ l = last_is s at end l (found_at s at end l (subst (NumberAt s at end) e n)) in
    looked_past s at end (omega (arith, n.ends)) ∙ omega arith
  where
    l : ℕ
    l = next - 1

pub var_uint_looked : (s : List ℕ) (at end : ℕ) {u : Unsigned} → var_uint s at end ≡ gives u → looked_to s at end ≡ u.next
var_uint_looked s at end h =
    let r = var_uint_at s at end h in looked_next s at end r.next r.number ∙ sym (ap (λ (x : Unsigned). x.next) r.is)

pub var_int_looked : (s : List ℕ) (at end : ℕ) {i : Signed} → var_int s at end ≡ gives i → looked_to s at end ≡ i.next
var_int_looked s at end h =
    let r = var_int_at s at end h in looked_next s at end r.next r.number ∙ sym (ap (λ (x : Signed). x.next) r.is)
