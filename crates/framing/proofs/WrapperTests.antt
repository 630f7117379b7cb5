-- The tests of a wrapper's lengths, behind its combined length: where lies what they give, what it means, and that none of them refuses with 50.
-- Assumes nothing.
use Prim.Native.Nat.{ℕ, ◌+◌, ◌-◌, ◌≤◌, ◌<◌}
use native.Mathlib.Omega.{arith}
use borrow.Author.Tests.{ltb-false, eqb-false}
use mathlib.Core.Path.{◌≡◌, refl, sym, ap, subst}
use mathlib.Core.List.{List}
use lib.ListN.{length}
use lib.Dec.{ltb, eqb}
use Rattle.numbers.specs.Bytes.{part}
use Rattle.numbers.specs.Format.{var_uint_of, NumberAt}
use Rattle.numbers.specs.Answers.{Unsigned, most_bytes}
use Rattle.numbers.proofs.Outcomes.{Each, given, each_refuse, each_then, Proper, gave, proper_refuse, proper_then}
use Rattle.numbers.proofs.Meaning.{var_uint_each, var_uint_bounded, var_uint_proper}
use Rattle.framing.specs.Answers.{Sized, Wrapping, wrapper_tests, annotations_at}
use Rattle.framing.specs.Format.{code_at, CodeLength}

-- a wrapper's value stands in the part, past at least one byte of annotations, and is to have a byte at least
pub record WrapperAt (limit : ℕ) (at end : ℕ) (w : Wrapping) : Type 0 where
  pub low : at < w.annotations
  pub some : w.annotations < w.value
  pub few : w.value ≤ w.annotations + limit
  pub high : w.value ≤ end
  pub more : 0 < w.expected

pub wrapper_tests_each : (limit : ℕ) (s : List ℕ) (at end : ℕ) (l : Sized) → at + 1 ≤ l.body → Each (WrapperAt limit at end) (annotations_at limit s at end l)
unfolding annotations_at wrapper_tests
wrapper_tests_each limit s at end l low =
    each_then (var_uint_bounded s l.body end) (λ u n.
    each_refuse (eqb u.value 0) 23 at (λ z.
    each_refuse (ltb l.size (u.next - l.body + u.value)) 24 at (λ x.
    each_refuse (eqb l.size (u.next - l.body + u.value)) 25 at (λ y.
    each_refuse (ltb limit u.value) 26 at (λ m.
    each_refuse (ltb (end - u.next) u.value) 5 u.next (λ f.
    given
    (record {
      low = omega (arith, low, n.begins);
      some = omega (arith, eqb-false u.value 0 z);
      few = omega (arith, ltb-false limit u.value m);
      high = omega (arith, ltb-false (end - u.next) u.value f, n.ends);
      more = omega (arith, ltb-false l.size (u.next - l.body + u.value) x, eqb-false l.size (u.next - l.body + u.value) y);
    })))))))

-- a wrapper's two lengths, and what they leave to its value
pub record WrapperMeaning (limit : ℕ) (s : List ℕ) (at end : ℕ) (w : Wrapping) : Type 0 where
  pub combined : ℕ
  pub after : ℕ
  pub field : CodeLength s (at + 1) end after (code_at s at) combined
  pub low : at < after
  pub count : NumberAt s after end w.annotations
  pub size : w.value ≡ w.annotations + var_uint_of (part s after w.annotations)
  pub some : w.annotations < w.value
  pub left : combined ≡ w.expected + (w.value - after)
  pub near : after ≤ at + 1 + most_bytes
  pub close : w.annotations ≤ after + most_bytes
  pub few : w.value ≤ w.annotations + limit

-- the tests of a wrapper's lengths
pub lengths_sound : (limit : ℕ) (s : List ℕ) (at end : ℕ) (l : Sized) → at + 1 ≤ l.body → l.body ≤ at + 1 + most_bytes → (0 < l.size → CodeLength s (at + 1) end l.body (code_at s at) l.size) → Each (WrapperMeaning limit s at end) (annotations_at limit s at end l)
unfolding annotations_at wrapper_tests
lengths_sound limit s at end l low near field =
    each_then (var_uint_each s l.body end) (λ u r.
    let begins : l.body < u.next = rw r.is r.number.begins in
    each_refuse (eqb u.value 0) 23 at (λ a.
    each_refuse (ltb l.size (u.next - l.body + u.value)) 24 at (λ b.
    each_refuse (eqb l.size (u.next - l.body + u.value)) 25 at (λ c.
    each_refuse (ltb limit u.value) 26 at (λ e.
    each_refuse (ltb (end - u.next) u.value) 5 u.next (λ d.
    let more : u.next - l.body + u.value ≤ l.size = ltb-false l.size _ b in
    given
    (record {
      combined = l.size;
      after = l.body;
      field = field (omega arith);
      low = omega (arith, low);
      count = subst (λ (x : Unsigned). NumberAt s l.body end x.next) (sym r.is) r.number;
      size = ap (λ (n : ℕ). u.next + n) (subst (λ (x : Unsigned). x.value ≡ var_uint_of (part s l.body x.next)) (sym r.is) refl);
      some = omega (arith, eqb-false u.value 0 a);
      left = omega arith;
      near = near;
      close = subst (λ (x : Unsigned). x.next ≤ l.body + most_bytes) (sym r.is) r.short;
      few = omega (arith, ltb-false limit u.value e);
    })))))))

pub wrapper_tests_proper : (limit : ℕ) (s : List ℕ) (at end : ℕ) (l : Sized) → l.body ≤ end → end ≤ length s → Proper (annotations_at limit s at end l)
unfolding annotations_at wrapper_tests
wrapper_tests_proper limit s at end l b k =
    proper_then (var_uint_bounded s l.body end) (var_uint_proper s l.body end b k) (λ u n.
    proper_refuse (eqb u.value 0) 23 at (λ e. omega arith) (λ _.
    proper_refuse (ltb l.size (u.next - l.body + u.value)) 24 at (λ e. omega arith) (λ _.
    proper_refuse (eqb l.size (u.next - l.body + u.value)) 25 at (λ e. omega arith) (λ _.
    proper_refuse (ltb limit u.value) 26 at (λ e. omega arith) (λ _.
    proper_refuse (ltb (end - u.next) u.value) 5 u.next (λ e. omega arith) (λ _. gave))))))
