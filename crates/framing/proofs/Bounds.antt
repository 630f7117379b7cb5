-- What is given lies in the part, its places in order.
-- Assumes nothing.
use Prim.Native.Nat.{ℕ, ◌+◌, ◌-◌, ◌≤◌, ◌<◌}
use native.Mathlib.Omega.{arith}
use borrow.Author.Tests.{ltb-false, eqb-false}
use mathlib.Core.Path.{◌≡◌, refl}
use mathlib.Core.Bool.{not}
use mathlib.Core.List.{List}
use lib.ListN.{length, get_or}
use lib.Dec.{ltb, eqb}
use Rattle.numbers.specs.Outcome.{and_then}
use Rattle.numbers.specs.Answers.{most_bytes}
use Rattle.numbers.specs.Descriptor.{descriptor_of}
use Rattle.numbers.specs.declared.type_descriptor.TypeDescriptor.{TypeDescriptor}
use Rattle.numbers.proofs.Outcomes.{Each, given, each_refuse, each_pick, each_within, each_then}
use Rattle.numbers.proofs.Meaning.{var_uint_bounded}
use Rattle.framing.specs.Answers.{peeked_descriptor, Sized, length_at, length_tests, value_length, fitting, value_without_annotations, padded, pad_at, wrapper_at, inner_value, wrapped, unwrapped, annotated_value, value_at, bad_float, short_timestamp, empty_ordered, no_value, is_pad, is_wrapper, read_value, Frame, padding, valued, frame_at, read_frame}
use Rattle.framing.specs.Spans.{Spans, Padding}
use Rattle.framing.proofs.WrapperTests.{WrapperAt, wrapper_tests_each}

-- a descriptor is one of the part
pub record PeekedAt (s : List ℕ) (at end : ℕ) (d : TypeDescriptor) : Type 0 where
  pub before : at < end
  pub inside : end ≤ length s
  pub is : d ≡ descriptor_of (get_or s at 0)

pub peeked_each : (s : List ℕ) (at end : ℕ) → Each (PeekedAt s at end) (peeked_descriptor s at end)
unfolding peeked_descriptor
peeked_each s at end =
    each_within s at end (λ a b.
    each_refuse (eqb at end) 1 end (λ e. given (record { before = omega (arith, eqb-false at end e); inside = b; is = refl })))

-- a length's body begins in the part
pub record SizedAt (at end : ℕ) (l : Sized) : Type 0 where
  pub low : at ≤ l.body
  pub high : l.body ≤ end
  pub near : l.body ≤ at + most_bytes

pub length_each : (s : List ℕ) (at end code : ℕ) → at ≤ end → Each (SizedAt at end) (length_at s at end code)
unfolding length_at
length_each s at end code h =
    each_pick (eqb code 15) (λ _. given (record { low = omega arith; high = h; near = omega arith })) (λ _.
    each_pick (eqb code 14)
    (λ _. each_then (var_uint_bounded s at end) (λ u b. given (record { low = omega (arith, b.begins); high = b.ends; near = b.short })))
    (λ _. given (record { low = omega arith; high = h; near = omega arith })))

pub tests_each : {P : Sized → Type 0} (at type code : ℕ) (l : Sized) → P l → Each P (length_tests at type code l)
unfolding length_tests
tests_each at type code l p =
    each_refuse (bad_float type code) 30 at (λ _.
    each_refuse (short_timestamp type code l.size) 31 at (λ _. each_refuse (empty_ordered type code l.size) 32 at (λ _. given p)))

pub value_length_each : (s : List ℕ) (at end : ℕ) (d : TypeDescriptor) → at < end → Each (SizedAt (at + 1) end) (value_length s at end d)
unfolding value_length
value_length_each s at end d h =
    each_then (length_each s (at + 1) end _ (omega arith)) (λ l b. tests_each at d.type_code d.length_code l b)

-- a value's places are in order, and its own byte is at its descriptor
pub record Ordered (at end : ℕ) (v : Spans) : Type 0 where
  pub starts : v.start ≡ at
  pub annotated : at ≤ v.annotations
  pub described : v.annotations ≤ v.descriptor
  pub bodied : v.descriptor < v.body
  pub ended : v.body ≤ v.end
  pub within : v.end ≤ end
  pub near : v.body ≤ v.descriptor + 1 + most_bytes

pub plain_each : (s : List ℕ) (at end : ℕ) (d : TypeDescriptor) → at < end → Each (Ordered at end) (value_without_annotations s at end d)
unfolding value_without_annotations fitting
plain_each s at end d h =
    each_refuse (no_value d.kind) 22 at (λ _.
    each_then (value_length_each s at end d h) (λ l b.
    each_refuse (ltb (end - l.body) l.size) 8 at (λ f.
    given
    (record {
      starts = refl;
      annotated = omega arith;
      described = omega arith;
      bodied = omega (arith, b.low);
      ended = omega arith;
      within = omega (arith, ltb-false (end - l.body) l.size f, b.high);
      near = b.near;
    }))))

-- a pad's body lies in the part
pub record PaddedAt (at end : ℕ) (p : Padding) : Type 0 where
  pub bodied : at < p.body
  pub ended : p.body ≤ p.end
  pub within : p.end ≤ end

pub pad_each : (s : List ℕ) (at end : ℕ) (d : TypeDescriptor) → at < end → Each (PaddedAt at end) (pad_at s at end d)
unfolding pad_at padded
pad_each s at end d h =
    each_then (length_each s (at + 1) end d.length_code (omega arith)) (λ l b.
    each_refuse (ltb (end - l.body) l.size) 6 l.body (λ f.
    given
    (record {
      bodied = omega (arith, b.low);
      ended = omega arith;
      within = omega (arith, ltb-false (end - l.body) l.size f, b.high);
    })))

pub wrapper_each : (limit : ℕ) (s : List ℕ) (at end : ℕ) (d : TypeDescriptor) → at < end → Each (WrapperAt limit at end) (wrapper_at limit s at end d)
unfolding wrapper_at
wrapper_each limit s at end d h =
    each_then (length_each s (at + 1) end d.length_code (omega arith)) (λ l b. wrapper_tests_each limit s at end l b.low)

pub inner_each : (s : List ℕ) (at end : ℕ) (d : TypeDescriptor) → at < end → Each (Ordered at end) (inner_value s at end d)
unfolding inner_value
inner_each s at end d h =
    each_refuse (is_wrapper d.kind) 27 at (λ _. each_refuse (is_pad d.kind) 28 at (λ _. plain_each s at end d h))

pub inner_peeked_each : (s : List ℕ) (at end : ℕ) → Each (Ordered at end) (and_then (peeked_descriptor s at end) (inner_value s at end))
inner_peeked_each s at end = each_then (peeked_each s at end) (λ d b. inner_each s at end d b.before)

pub annotated_each : (limit : ℕ) (s : List ℕ) (at end : ℕ) (d : TypeDescriptor) → at < end → Each (Ordered at end) (annotated_value limit s at end d)
unfolding annotated_value unwrapped wrapped
annotated_each limit s at end d h =
    each_then (wrapper_each limit s at end d h) (λ w b.
    each_then (inner_peeked_each s w.value end) (λ v o.
    each_refuse (not (eqb (v.end - v.descriptor) w.expected)) 29 at (λ _.
    given
    (record {
      starts = refl;
      annotated = omega (arith, b.low);
      described = omega (arith, b.some, o.starts, o.annotated, o.described);
      bodied = o.bodied;
      ended = o.ended;
      within = o.within;
      near = o.near;
    }))))

pub value_each : (limit : ℕ) (s : List ℕ) (at end : ℕ) (d : TypeDescriptor) → at < end → Each (Ordered at end) (value_at limit s at end d)
unfolding value_at
value_each limit s at end d h =
    each_pick (is_wrapper d.kind) (λ _. annotated_each limit s at end d h) (λ _. plain_each s at end d h)

pub read_value_each : (limit : ℕ) (s : List ℕ) (at end : ℕ) → Each (Ordered at end) (read_value limit s at end)
unfolding read_value
read_value_each limit s at end = each_then (peeked_each s at end) (λ d b. value_each limit s at end d b.before)

-- a pad or a value that a step meets
pub data FrameIn (at end : ℕ) : Frame → Type 0 where
  pad_in : {p : Padding} → PaddedAt at end p → FrameIn at end (padding p)
  value_in : {v : Spans} → Ordered at end v → FrameIn at end (valued v)

pub frame_each : (limit : ℕ) (s : List ℕ) (at end : ℕ) → Each (FrameIn at end) (read_frame limit s at end)
unfolding read_frame frame_at
frame_each limit s at end =
    each_then (peeked_each s at end) (λ d b.
    each_pick (is_pad d.kind) (λ _. each_then (pad_each s at end d b.before) (λ p q. given (pad_in q)))
    (λ _. each_then (value_each limit s at end d b.before) (λ v o. given (value_in o))))
