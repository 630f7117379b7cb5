-- The same bytes n further on are framed the same, their places and the positions of refusals n further on.
-- Assumes nothing.
use Prim.Native.Nat.{ℕ, ◌+◌, ◌-◌, ◌≤◌, ◌<◌}
use native.Mathlib.Omega.{arith}
use borrow.Author.Tests.{eqb-false}
use mathlib.Core.Path.{◌≡◌, sym, subst}
use mathlib.Core.Bool.{not}
use mathlib.Core.List.{List}
use lib.ListN.{length, get_or}
use lib.Dec.{ltb, eqb}
use Rattle.numbers.specs.Outcome.{gives, and_then}
use Rattle.numbers.specs.Answers.{Unsigned, var_uint}
use Rattle.numbers.specs.declared.type_descriptor.TypeDescriptor.{TypeDescriptor}
use Rattle.numbers.proofs.Outcomes.{inside, each_of}
use Rattle.numbers.proofs.Moving.{Moved, given_on, moved_refuse, moved_pick, moved_then, same_moved, moved_unsigned, var_uint_moved}
use Rattle.framing.specs.Answers.{peeked_descriptor, Sized, sized_by, length_at, value_code, bad_float, short_timestamp, empty_ordered, length_tests, value_length, fitting, value_without_annotations, padded, pad_at, Wrapping, wrapper_tests, annotations_at, wrapper_at, inner_value, wrapped, unwrapped, annotated_value, value_at, frame_at, read_frame, Frame, padding, valued, as_padding, as_valued, is_pad, is_wrapper, no_value}
use Rattle.framing.specs.Spans.{Spans, Padding}
use Rattle.framing.proofs.WrapperTests.{WrapperAt}
use Rattle.framing.proofs.Bounds.{PeekedAt, peeked_each, SizedAt, length_each, wrapper_each}

pub moved_is : {A : Type 0} {n : ℕ} {f : A → A} (a : A) {b : A} → b ≡ f a → Moved n f (gives a) (gives b)
moved_is {n = n} {f = f} a e = subst (λ b. Moved n f (gives a) (gives b)) (sym e) given_on

abbrev same_descriptor : TypeDescriptor → TypeDescriptor
same_descriptor d = d

abbrev moved_sized : ℕ → Sized → Sized
moved_sized n l = record { body = n + l.body; size = l.size }

abbrev pub moved_spans : ℕ → Spans → Spans
moved_spans n v =
    record {
      byte = v.byte;
      start = n + v.start;
      annotations = n + v.annotations;
      descriptor = n + v.descriptor;
      body = n + v.body;
      end = n + v.end;
    }

abbrev pub moved_padding : ℕ → Padding → Padding
moved_padding n p = record { body = n + p.body; end = n + p.end }

abbrev moved_wrapping : ℕ → Wrapping → Wrapping
moved_wrapping n w = record { annotations = n + w.annotations; value = n + w.value; expected = w.expected }

abbrev pub moved_frame : ℕ → Frame → Frame
moved_frame n (padding p) = padding (moved_padding n p)
moved_frame n (valued v) = valued (moved_spans n v)

pub further : (n a b : ℕ) → n + a + b ≡ n + (a + b)
further n a b = omega arith

pub between : (n a b : ℕ) → n + a - (n + b) ≡ a - b
between n a b = omega arith

-- a value that moves as a whole: the seven places
spans_on : (n at body size byte : ℕ) → ◌≡◌ {A = Spans} (record { byte = byte; start = n + at; annotations = n + at; descriptor = n + at; body = n + body; end = n + body + size }) (record { byte = byte; start = n + at; annotations = n + at; descriptor = n + at; body = n + body; end = n + (body + size) })
spans_on n at body size byte = rw (further n body size)

padding_on : (n body size : ℕ) → ◌≡◌ {A = Padding} (record { body = n + body; end = n + body + size }) (record { body = n + body; end = n + (body + size) })
padding_on n body size = rw (further n body size)

wrapping_on : (n next value expected : ℕ) → ◌≡◌ {A = Wrapping} (record { annotations = n + next; value = n + next + value; expected = expected }) (record { annotations = n + next; value = n + (next + value); expected = expected })
wrapping_on n next value expected = rw (further n next value)

module _ (limit : ℕ) (s t : List ℕ) (n start end : ℕ) (k : end ≤ length s) (k' : n + end ≤ length t) (same : (i : ℕ) → start ≤ i → i < end → get_or s i 0 ≡ get_or t (n + i) 0) where
  pub peeked_moved : (at : ℕ) → start ≤ at → at ≤ end → Moved n same_descriptor (peeked_descriptor s at end) (peeked_descriptor t (n + at) (n + end))
  unfolding peeked_descriptor
  peeked_moved at a b =
      rw (inside s at end b k, inside t (n + at) (n + end) (omega arith) k', same_moved n at end)
      (moved_refuse (eqb at end) 1 end (λ e. rw (← same at a (omega (arith, eqb-false at end e))) given_on))

  uint_moved : (at : ℕ) → start ≤ at → at ≤ end → Moved n (moved_unsigned n) (var_uint s at end) (var_uint t (n + at) (n + end))
  uint_moved at a b = var_uint_moved s t n at end b k k' (λ i p q. same i (omega arith) q)

  length_moved : (at code : ℕ) → start ≤ at → at ≤ end → Moved n (moved_sized n) (length_at s at end code) (length_at t (n + at) (n + end) code)
  unfolding length_at
  length_moved at code a b =
      moved_pick (eqb code 15) (λ _. given_on) (λ _.
      moved_pick (eqb code 14) (λ _. moved_then sized_by sized_by (uint_moved at a b) (λ u _. given_on)) (λ _. given_on))

  tests_moved : (at type code : ℕ) (l : Sized) → Moved n (moved_sized n) (length_tests at type code l) (length_tests (n + at) type code (moved_sized n l))
  unfolding length_tests
  tests_moved at type code l =
      moved_refuse (bad_float type code) 30 at (λ _.
      moved_refuse (short_timestamp type code l.size) 31 at (λ _. moved_refuse (empty_ordered type code l.size) 32 at (λ _. given_on)))

  value_length_moved : (at : ℕ) (d : TypeDescriptor) → start ≤ at → at < end → Moved n (moved_sized n) (value_length s at end d) (value_length t (n + at) (n + end) d)
  unfolding value_length
  value_length_moved at d a b =
      rw (further n at 1)
      (moved_then (length_tests at d.type_code d.length_code) (length_tests (n + at) d.type_code d.length_code) (length_moved (at + 1) (value_code d.type_code d.length_code) (omega arith) (omega arith)) (λ l _. tests_moved at d.type_code d.length_code l))

  fitting_moved : (at byte : ℕ) (l : Sized) → Moved n (moved_spans n) (fitting at end byte l) (fitting (n + at) (n + end) byte (moved_sized n l))
  unfolding fitting
  fitting_moved at byte l =
      rw (between n end l.body)
      (moved_refuse (ltb (end - l.body) l.size) 8 at (λ _. moved_is _ (spans_on n at l.body l.size byte)))

  plain_moved : (at : ℕ) (d : TypeDescriptor) → start ≤ at → at < end → Moved n (moved_spans n) (value_without_annotations s at end d) (value_without_annotations t (n + at) (n + end) d)
  unfolding value_without_annotations
  plain_moved at d a b =
      rw (← same at a b)
      (moved_refuse (no_value d.kind) 22 at (λ _.
      moved_then (fitting at end (get_or s at 0)) (fitting (n + at) (n + end) (get_or s at 0)) (value_length_moved at d a b) (λ l _. fitting_moved at (get_or s at 0) l)))

  pad_moved : (at : ℕ) (d : TypeDescriptor) → start ≤ at → at < end → Moved n (moved_padding n) (pad_at s at end d) (pad_at t (n + at) (n + end) d)
  unfolding pad_at padded
  pad_moved at d a b =
      rw (further n at 1)
      (moved_then (padded end) (padded (n + end)) (length_moved (at + 1) d.length_code (omega arith) (omega arith)) (λ l _.
      rw (between n end l.body)
      (moved_refuse (ltb (end - l.body) l.size) 6 l.body (λ _. moved_is _ (padding_on n l.body l.size)))))

  wrapper_tests_moved : (at : ℕ) (l : Sized) (u : Unsigned) → Moved n (moved_wrapping n) (wrapper_tests limit at end l u) (wrapper_tests limit (n + at) (n + end) (moved_sized n l) (moved_unsigned n u))
  unfolding wrapper_tests
  wrapper_tests_moved at l u =
      rw (between n u.next l.body, between n end u.next)
      (moved_refuse (eqb u.value 0) 23 at (λ _.
      moved_refuse (ltb l.size (u.next - l.body + u.value)) 24 at (λ _.
      moved_refuse (eqb l.size (u.next - l.body + u.value)) 25 at (λ _.
      moved_refuse (ltb limit u.value) 26 at (λ _.
      moved_refuse (ltb (end - u.next) u.value) 5 u.next (λ _.
      moved_is _ (wrapping_on n u.next u.value (l.size - (u.next - l.body + u.value)))))))))

  wrapper_moved : (at : ℕ) (d : TypeDescriptor) → start ≤ at → at < end → Moved n (moved_wrapping n) (wrapper_at limit s at end d) (wrapper_at limit t (n + at) (n + end) d)
  unfolding wrapper_at annotations_at
  wrapper_moved at d a b =
      rw (further n at 1)
      (moved_then (annotations_at limit s at end) (annotations_at limit t (n + at) (n + end)) (length_moved (at + 1) d.length_code (omega arith) (omega arith)) (λ l q.
      let r : SizedAt (at + 1) end l = each_of (length_each s (at + 1) end d.length_code (omega arith)) q in
      moved_then (wrapper_tests limit at end l) (wrapper_tests limit (n + at) (n + end) (moved_sized n l)) (uint_moved l.body (omega (arith, r.low)) r.high) (λ u _. wrapper_tests_moved at l u)))

  pub inner_moved : (at : ℕ) → start ≤ at → at ≤ end → Moved n (moved_spans n) (and_then (peeked_descriptor s at end) (inner_value s at end)) (and_then (peeked_descriptor t (n + at) (n + end)) (inner_value t (n + at) (n + end)))
  unfolding inner_value
  inner_moved at a b =
      moved_then (inner_value s at end) (inner_value t (n + at) (n + end)) (peeked_moved at a b) (λ d q.
      let r : PeekedAt s at end d = each_of (peeked_each s at end) q in
      moved_refuse (is_wrapper d.kind) 27 at (λ _. moved_refuse (is_pad d.kind) 28 at (λ _. plain_moved at d a r.before)))

  unwrapped_moved : (at : ℕ) (w : Wrapping) → start ≤ w.value → w.value ≤ end → Moved n (moved_spans n) (unwrapped s at end w) (unwrapped t (n + at) (n + end) (moved_wrapping n w))
  unfolding unwrapped wrapped
  unwrapped_moved at w a b =
      moved_then (wrapped at w) (wrapped (n + at) (moved_wrapping n w)) (inner_moved w.value a b) (λ v q.
      rw (between n v.end v.descriptor)
      (moved_refuse (not (eqb (v.end - v.descriptor) w.expected)) 29 at (λ _. given_on)))

  value_moved : (at : ℕ) (d : TypeDescriptor) → start ≤ at → at < end → Moved n (moved_spans n) (value_at limit s at end d) (value_at limit t (n + at) (n + end) d)
  unfolding value_at annotated_value
  value_moved at d a b =
      moved_pick (is_wrapper d.kind)
      (λ _.
      moved_then (unwrapped s at end) (unwrapped t (n + at) (n + end)) (wrapper_moved at d a b) (λ w q.
      let r : WrapperAt limit at end w = each_of (wrapper_each limit s at end d b) q in
      unwrapped_moved at w (omega (arith, r.low, r.some)) r.high))
      (λ _. plain_moved at d a b)

  pub frame_moved : (at : ℕ) → start ≤ at → at ≤ end → Moved n (moved_frame n) (read_frame limit s at end) (read_frame limit t (n + at) (n + end))
  unfolding read_frame frame_at
  frame_moved at a b =
      moved_then (frame_at limit s at end) (frame_at limit t (n + at) (n + end)) (peeked_moved at a b) (λ d q.
      let r : PeekedAt s at end d = each_of (peeked_each s at end) q in
      moved_pick (is_pad d.kind) (λ _. moved_then as_padding as_padding (pad_moved at d a r.before) (λ p _. given_on))
      (λ _. moved_then as_valued as_valued (value_moved at d a r.before) (λ v _. given_on)))
