-- A reading depends on its bytes and not on where they stand, whatever it answers: the same bytes n further on, also in another slice, have the same answer,
-- its positions n further on.
-- Assumes nothing.
use Prim.Native.Nat.{ℕ, ◌+◌, ◌-◌, ◌≤◌, ◌<◌}
use native.Mathlib.Omega.{arith}
use mathlib.Core.Path.{◌≡◌, refl, ◌∙◌, sym, ap, subst}
use mathlib.Core.Bool.{Bool, true, false}
use mathlib.Core.List.{List}
use lib.ListN.{length, get_or}
use lib.Seq.{ext_get_or}
use lib.Dec.{eqb, ltb}
use borrow.Author.Tests.{eq-eqb, ne_eqb, eqb-true, eqb-false, ltb-false}
use Rattle.numbers.specs.Outcome.{Outcome, gives, refuses, refuse_if, pick, and_then}
use Rattle.numbers.specs.Bytes.{part}
use Rattle.numbers.specs.Answers.{most_bytes, Unsigned, Signed, Fixed, unsigned, signed, last_byte, var_number, var_uint, var_int, int}
use Rattle.numbers.proofs.Outcomes.{by_case, inside}
use Rattle.numbers.proofs.Parts.{part_length, part_at}
use Rattle.numbers.proofs.LastByte.{Found, found, last_is, last_high}

-- the second outcome is the first with its positions n further on; f takes on those in what is given
pub data Moved {A : Type 0} (n : ℕ) (f : A → A) : Outcome A → Outcome A → Type 0 where
  given_on : {a : A} → Moved n f (gives a) (gives (f a))
  refused_on : {number position : ℕ} → Moved n f (refuses number position) (refuses number (n + position))

moved_given : {A : Type 0} {n : ℕ} {f : A → A} (a : A) {b : A} → b ≡ f a → Moved n f (gives a) (gives b)
moved_given {n = n} {f = f} a e = subst (λ b. Moved n f (gives a) (gives b)) (sym e) given_on

pub moved_refuse : {A : Type 0} {n : ℕ} {f : A → A} (t : Bool) (k p : ℕ) {o o' : Outcome A} → (t ≡ false → Moved n f o o') → Moved n f (refuse_if t k p o) (refuse_if t k (n + p) o')
moved_refuse true k p h = refused_on
moved_refuse false k p h = h refl

pub moved_pick : {A : Type 0} {n : ℕ} {f : A → A} (t : Bool) {x x' y y' : Outcome A} → (t ≡ true → Moved n f x x') → (t ≡ false → Moved n f y y') → Moved n f (pick t x y) (pick t x' y')
moved_pick true h k = h refl
moved_pick false h k = k refl

pub moved_then : {A B : Type 0} {n : ℕ} {f : A → A} {g : B → B} {o o' : Outcome A} (h h' : A → Outcome B) → Moved n f o o' → ((a : A) → o ≡ gives a → Moved n g (h a) (h' (f a))) → Moved n g (and_then o h) (and_then o' h')
moved_then h h' (given_on {a}) k = k a refl
moved_then h h' refused_on k = refused_on

-- whether two positions are the same
pub same_moved : (n a b : ℕ) → eqb (n + a) (n + b) ≡ eqb a b
same_moved n a b =
    by_case (eqb a b) (λ e. rw (e, eq-eqb (n + a) (n + b) (omega (arith, eqb-true a b e))))
    (λ e. rw (e, ne_eqb (n + a) (n + b) (λ q. eqb-false a b e (omega arith))))

abbrev pub moved_unsigned : ℕ → Unsigned → Unsigned
moved_unsigned n u = record { value = u.value; next = n + u.next }

abbrev pub moved_signed : ℕ → Signed → Signed
moved_signed n i = record { negative = i.negative; magnitude = i.magnitude; next = n + i.next }

abbrev pub moved_fixed : ℕ → Fixed → Fixed
moved_fixed n i = record { negative = i.negative; first = i.first; rest = n + i.rest; end = n + i.end }

module _ (s t : List ℕ) (n at end : ℕ) (order : at ≤ end) (k : end ≤ length s) (k' : n + end ≤ length t) (same : (i : ℕ) → at ≤ i → i < end → get_or s i 0 ≡ get_or t (n + i) 0) where
  last_moved : last_byte t (n + at) (n + end) ≡ n + last_byte s at end
  last_moved =
      last_is t (n + at) (n + end) (n + l)
      (record {
        low = omega (arith, f.low);
        high = omega (arith, f.high);
        before = λ i a b.
            let e : n + (i - n) ≡ i = omega arith in
            rw (← e, ← same (i - n) (omega arith) (omega (arith, f.high))) (f.before (i - n) (omega arith) (omega arith));
        here = λ a. rw (← same l f.low (omega arith)) (f.here (omega arith));
      })
    where
      l : ℕ
      l = last_byte s at end

      f : Found s at (end - at) l
      f = found s at end

  pub part_moved : (a b : ℕ) → at ≤ a → b ≤ end → part t (n + a) (n + b) ≡ part s a b
  part_moved a b h m =
      ext_get_or 0 (part t (n + a) (n + b)) (part s a b) (part_length t (n + a) (n + b) (omega arith) ∙ difference ∙ sym (part_length s a b (omega arith))) (λ i p.
      let q : i < b - a = rw (part_length t (n + a) (n + b) (omega arith), difference) at p in
      part_at t (n + a) (n + b) i (omega arith)
      ∙ ap (λ (j : ℕ). get_or t j 0) (further i)
      ∙ sym (same (a + i) (omega arith) (omega arith))
      ∙ sym (part_at s a b i (omega arith)))
    where
      difference : n + b - (n + a) ≡ b - a
      difference = omega arith

      further : (i : ℕ) → n + a + i ≡ n + (a + i)
      further i = omega arith

  pub number_moved : {A : Type 0} {f : A → A} (cut : ℕ) (answer answer' : ℕ → A) → ((next : ℕ) → next ≤ end → answer' (n + next) ≡ f (answer next)) → Moved n f (var_number cut answer s at end) (var_number cut answer' t (n + at) (n + end))
  unfolding var_number
  number_moved cut answer answer' h =
      rw (inside s at end order k, inside t (n + at) (n + end) (omega arith) k', last_moved, same_moved n l end, difference, further)
      (moved_refuse (eqb l end) cut end (λ e.
      moved_refuse (ltb most_bytes (l + 1 - at)) 20 at (λ _.
      moved_given (answer (l + 1)) (h (l + 1) (omega (arith, last_high s at end order, eqb-false l end e))))))
    where
      l : ℕ
      l = last_byte s at end

      difference : n + l + 1 - (n + at) ≡ l + 1 - at
      difference = omega arith

      further : n + l + 1 ≡ n + (l + 1)
      further = omega arith

  pub var_uint_moved : Moved n (moved_unsigned n) (var_uint s at end) (var_uint t (n + at) (n + end))
  unfolding var_uint
  var_uint_moved =
      number_moved 3 (unsigned s at) (unsigned t (n + at)) (λ next h. rw (part_moved at next (omega arith) h))

  pub var_int_moved : Moved n (moved_signed n) (var_int s at end) (var_int t (n + at) (n + end))
  unfolding var_int
  var_int_moved =
      number_moved 4 (signed s at) (signed t (n + at)) (λ next h. rw (part_moved at next (omega arith) h))

  pub int_moved : (size : ℕ) → Moved n (moved_fixed n) (int s at end size) (int t (n + at) (n + end) size)
  unfolding int
  int_moved size =
      rw (inside s at end order k, inside t (n + at) (n + end) (omega arith) k', difference)
      (moved_pick (eqb size 0) (λ _. given_on) (λ z.
      moved_refuse (ltb (end - at) size) 9 at (λ h.
      let l : size ≤ end - at = ltb-false (end - at) size h in
      moved_given _
      (rw (further size, further 1, part_moved at (at + size) (omega arith) (omega arith), same at (omega arith) (omega (arith, eqb-false size 0 z)))))))
    where
      difference : n + end - (n + at) ≡ end - at
      difference = omega arith

      further : (i : ℕ) → n + at + i ≡ n + (at + i)
      further i = omega arith
