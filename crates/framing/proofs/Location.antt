-- A value is where it stands, and then the value there: with a wrapper and without one.
-- Assumes nothing.
use Prim.Native.Nat.{ℕ, ◌-◌, ◌<◌}
use native.Mathlib.Omega.{arith}
use borrow.Author.Tests.{ne_eqb}
use mathlib.Core.Path.{◌≡◌, refl, ◌∙◌, sym}
use mathlib.Core.List.{List}
use lib.ListN.{get_or}
use lib.Dec.{ltb}
use Rattle.numbers.specs.Outcome.{gives, refuse_if, and_then}
use Rattle.numbers.specs.declared.type_descriptor.TypeDescriptor.{TypeDescriptor}
use Rattle.numbers.proofs.Outcomes.{by_case, refuse_same, refuse_first, then_same, then_then, then_like}
use Rattle.framing.specs.Answers.{peeked_descriptor, Sized, value_length, fitting, value_without_annotations, Wrapping, wrapper_at, inner_value, wrapped, unwrapped, annotated_value, value_at, is_pad, is_wrapper, no_value}
use Rattle.framing.specs.Private.Located.{inner_tests, inner_at, location_in_wrapper, location_at, differs_from, fitted, located_value}
use Rattle.framing.proofs.Bounds.{wrapper_each}

-- a length without a wrapper, and with one
fits_alone : (at end byte : ℕ) (l : Sized) → fitting at end byte l ≡ fitted at end at at 0 byte l
unfolding fitting fitted differs_from
fits_alone at end byte l = refl

fits_wrapped : (at end byte : ℕ) (w : Wrapping) → 0 < w.expected → (l : Sized) → and_then (fitting w.value end byte l) (wrapped at w) ≡ fitted at end w.annotations w.value w.expected byte l
unfolding fitting wrapped fitted differs_from
fits_wrapped at end byte w n l =
    refuse_first (ltb (end - l.body) l.size) 8 w.value _ (wrapped at w)
    ∙ refuse_same (ltb (end - l.body) l.size) 8 w.value (λ _. rw (ne_eqb w.expected 0 (omega arith)))

plain_located : (s : List ℕ) (at end : ℕ) (d : TypeDescriptor) → value_without_annotations s at end d ≡ and_then (refuse_if (no_value d.kind) 22 at (gives (record { annotations = at; value = at; expected = 0; descriptor = d }))) (located_value s at end)
unfolding value_without_annotations located_value
plain_located s at end d =
    refuse_same (no_value d.kind) 22 at (λ _. then_like (value_length s at end d) (fits_alone at end (get_or s at 0)))
    ∙ sym (refuse_first (no_value d.kind) 22 at _ (located_value s at end))

inner_located : (s : List ℕ) (at end : ℕ) (w : Wrapping) → 0 < w.expected → (d : TypeDescriptor) → and_then (inner_value s w.value end d) (wrapped at w) ≡ and_then (inner_tests w d) (located_value s at end)
unfolding inner_value value_without_annotations inner_tests located_value
inner_located s at end w n d =
    refuse_first (is_wrapper d.kind) 27 v _ (wrapped at w)
    ∙ refuse_same (is_wrapper d.kind) 27 v (λ _.
    refuse_first (is_pad d.kind) 28 v _ (wrapped at w)
    ∙ refuse_same (is_pad d.kind) 28 v (λ _.
    refuse_first (no_value d.kind) 22 v _ (wrapped at w)
    ∙ refuse_same (no_value d.kind) 22 v (λ _.
    then_then (value_length s v end d) (fitting v end (get_or s v 0)) (wrapped at w)
    ∙ then_like (value_length s v end d) (fits_wrapped at end (get_or s v 0) w n))
    ∙ sym (refuse_first (no_value d.kind) 22 v _ (located_value s at end)))
    ∙ sym (refuse_first (is_pad d.kind) 28 v _ (located_value s at end)))
    ∙ sym (refuse_first (is_wrapper d.kind) 27 v _ (located_value s at end))
  where
    v : ℕ
    v = w.value

unwrapped_located : (s : List ℕ) (at end : ℕ) (w : Wrapping) → 0 < w.expected → unwrapped s at end w ≡ and_then (inner_at s end w) (located_value s at end)
unfolding unwrapped inner_at
unwrapped_located s at end w n =
    then_then (peeked_descriptor s w.value end) (inner_value s w.value end) (wrapped at w)
    ∙ then_like (peeked_descriptor s w.value end) (inner_located s at end w n)
    ∙ sym (then_then (peeked_descriptor s w.value end) (inner_tests w) (located_value s at end))

annotated_located : (limit : ℕ) (s : List ℕ) (at end : ℕ) (d : TypeDescriptor) → at < end → annotated_value limit s at end d ≡ and_then (location_in_wrapper limit s at end d) (located_value s at end)
unfolding annotated_value location_in_wrapper
annotated_located limit s at end d h =
    then_same (wrapper_each limit s at end d h) refl (λ w b. unwrapped_located s at end w b.more)
    ∙ sym (then_then (wrapper_at limit s at end d) (inner_at s end) (located_value s at end))

pub value_located : (limit : ℕ) (s : List ℕ) (at end : ℕ) (d : TypeDescriptor) → at < end → value_at limit s at end d ≡ and_then (location_at limit s at end d) (located_value s at end)
unfolding value_at location_at
value_located limit s at end d h =
    by_case (is_wrapper d.kind) (λ e. rw e (annotated_located limit s at end d h)) (λ e. rw e (plain_located s at end d))
