-- In a part of the slice no reading is refused with 50, which is the caller's alone.
-- Assumes nothing.
use Prim.Native.Nat.{ℕ, ◌+◌, ◌-◌, ◌≤◌, ◌<◌}
use native.Mathlib.Omega.{arith}
use mathlib.Core.Bool.{not}
use mathlib.Core.List.{List}
use lib.ListN.{length}
use lib.Dec.{ltb, eqb}
use Rattle.numbers.specs.Outcome.{and_then}
use Rattle.numbers.specs.declared.type_descriptor.TypeDescriptor.{TypeDescriptor}
use Rattle.numbers.proofs.Outcomes.{Proper, gave, proper_refuse, proper_pick, proper_within, proper_then}
use Rattle.numbers.proofs.Meaning.{var_uint_bounded, var_uint_proper}
use Rattle.framing.specs.Answers.{peeked_descriptor, length_at, length_tests, value_length, fitting, value_without_annotations, padded, pad_at, wrapper_at, inner_value, wrapped, unwrapped, annotated_value, value_at, bad_float, short_timestamp, empty_ordered, no_value, is_pad, is_wrapper, frame_at, read_frame}
use Rattle.framing.proofs.WrapperTests.{wrapper_tests_proper}
use Rattle.framing.proofs.Bounds.{peeked_each, length_each, value_length_each, pad_each, wrapper_each, inner_peeked_each, value_each}

module _ (limit : ℕ) (s : List ℕ) (end : ℕ) (k : end ≤ length s) where
  peeked_proper : (at : ℕ) → at ≤ end → Proper (peeked_descriptor s at end)
  unfolding peeked_descriptor
  peeked_proper at h = proper_within s at end h k (proper_refuse (eqb at end) 1 end (λ e. omega arith) (λ _. gave))

  length_proper : (at code : ℕ) → at ≤ end → Proper (length_at s at end code)
  unfolding length_at
  length_proper at code h =
      proper_pick (eqb code 15) gave
      (proper_pick (eqb code 14) (proper_then (var_uint_bounded s at end) (var_uint_proper s at end h k) (λ u b. gave)) gave)

  plain_proper : (at : ℕ) (d : TypeDescriptor) → at < end → Proper (value_without_annotations s at end d)
  unfolding value_without_annotations value_length length_tests fitting
  plain_proper at d h =
      proper_refuse (no_value d.kind) 22 at (λ e. omega arith) (λ _.
      proper_then (value_length_each s at end d h)
      (proper_then (length_each s (at + 1) end _ (omega arith)) (length_proper (at + 1) _ (omega arith)) (λ l b.
      proper_refuse (bad_float d.type_code d.length_code) 30 at (λ e. omega arith) (λ _.
      proper_refuse (short_timestamp d.type_code d.length_code l.size) 31 at (λ e. omega arith) (λ _.
      proper_refuse (empty_ordered d.type_code d.length_code l.size) 32 at (λ e. omega arith) (λ _. gave)))))
      (λ l b. proper_refuse (ltb (end - l.body) l.size) 8 at (λ e. omega arith) (λ _. gave)))

  pad_proper : (at : ℕ) (d : TypeDescriptor) → at < end → Proper (pad_at s at end d)
  unfolding pad_at padded
  pad_proper at d h =
      proper_then (length_each s (at + 1) end d.length_code (omega arith)) (length_proper (at + 1) d.length_code (omega arith)) (λ l b.
      proper_refuse (ltb (end - l.body) l.size) 6 l.body (λ e. omega arith) (λ _. gave))

  wrapper_proper : (at : ℕ) (d : TypeDescriptor) → at < end → Proper (wrapper_at limit s at end d)
  unfolding wrapper_at
  wrapper_proper at d h =
      proper_then (length_each s (at + 1) end d.length_code (omega arith)) (length_proper (at + 1) d.length_code (omega arith)) (λ l b.
      wrapper_tests_proper limit s at end l b.high k)

  inner_proper : (at : ℕ) → at ≤ end → Proper (and_then (peeked_descriptor s at end) (inner_value s at end))
  unfolding inner_value
  inner_proper at h =
      proper_then (peeked_each s at end) (peeked_proper at h) (λ d b.
      proper_refuse (is_wrapper d.kind) 27 at (λ e. omega arith) (λ _.
      proper_refuse (is_pad d.kind) 28 at (λ e. omega arith) (λ _. plain_proper at d b.before)))

  value_proper : (at : ℕ) (d : TypeDescriptor) → at < end → Proper (value_at limit s at end d)
  unfolding value_at annotated_value unwrapped wrapped
  value_proper at d h =
      proper_pick (is_wrapper d.kind)
      (proper_then (wrapper_each limit s at end d h) (wrapper_proper at d h) (λ w b.
      proper_then (inner_peeked_each s w.value end) (inner_proper w.value b.high) (λ v o.
      proper_refuse (not (eqb (v.end - v.descriptor) w.expected)) 29 at (λ e. omega arith) (λ _. gave))))
      (plain_proper at d h)

  pub frame_proper : (at : ℕ) → at ≤ end → Proper (read_frame limit s at end)
  unfolding read_frame frame_at
  frame_proper at h =
      proper_then (peeked_each s at end) (peeked_proper at h) (λ d b.
      proper_pick (is_pad d.kind)
      (proper_then (pad_each s at end d b.before) (pad_proper at d b.before) (λ p q. gave))
      (proper_then (value_each limit s at end d b.before) (value_proper at d b.before) (λ v o. gave)))
