-- A value is what a step in a sequence answers where it stands: but for pads, which a step passes, at a byte that begins no value both are refused alike.
-- Assumes nothing.
use Prim.Native.Nat.{ℕ, ◌≤◌, ◌<◌}
use native.Mathlib.Omega.{arith}
use borrow.Author.Tests.{eq-eqb, ne_eqb, le-ltb, lt-ltb}
use mathlib.Core.Path.{◌≡◌, refl, ◌∙◌, sym, ap}
use mathlib.Core.Bool.{true, false}
use mathlib.Core.List.{List}
use lib.ListN.{length, get_or}
use Rattle.numbers.specs.Outcome.{Outcome, gives, refuses, and_then, outside_of}
use Rattle.numbers.specs.Descriptor.{descriptor_of}
use Rattle.numbers.specs.declared.type_descriptor.TypeDescriptor.{TypeDescriptor}
use Rattle.numbers.proofs.Outcomes.{then_same, then_then, inside_order, inside_end}
use Rattle.framing.specs.Answers.{peeked_descriptor, is_pad, value_at, value_without_annotations, as_valued, frame_at, read_value, read_frame}
use Rattle.framing.specs.Limits.{out_of_range}
use Rattle.framing.specs.Spans.{Spans}
use Rattle.framing.proofs.Bounds.{peeked_each}
use Rattle.framing.proofs.Nibbles.{pad_byte, no_pad_byte}
use Rattle.stepping.specs.Items.{Item, value}
use Rattle.stepping.specs.Answers.{Tile, hand, as_tile, framed_at, tile_at, stop, step_of, answer_at}
use Rattle.stepping.specs.Private.Tiles.{handed}
use Rattle.stepping.specs.declared.cursor.Rules.TheVariants.{Sequence}
use Rattle.stepping.proofs.PadSkipping.{answered, answer_is}
use Rattle.values.specs.Scalars.{value_in}
use Rattle.values.specs.Private.Values.{value_from}

abbrev as_item : Spans → Outcome Item
as_item v = gives (value v)

abbrev as_handed : Spans → Outcome Tile
as_handed v = gives (hand (value v))

from_item : (at : ℕ) (o : Outcome Spans) → value_from at (and_then o as_item) ≡ o
from_item at (gives v) = refl
from_item at (refuses n p) = refl

module _ (limit : ℕ) (s : List ℕ) (at end : ℕ) where
  -- the readings of a value, outside the slice, at the part's end and at a pad
  pub value_outside : outside_of s at end ≡ true → read_value limit s at end ≡ refuses 50 0
  unfolding read_value peeked_descriptor
  value_outside e = rw e

  pub value_at_end : outside_of s at end ≡ false → at ≡ end → read_value limit s at end ≡ refuses 1 end
  unfolding read_value peeked_descriptor
  value_at_end e q = rw (e, eq-eqb at end q)

  pub value_at_pad : outside_of s at end ≡ false → (at ≡ end → ⊥) → get_or s at 0 < 15 → read_value limit s at end ≡ refuses 22 at
  unfolding read_value peeked_descriptor value_at value_without_annotations descriptor_of
  value_at_pad e n h = let p = pad_byte (get_or s at 0) h in rw (e, ne_eqb at end n, p.wrapper, p.value)

  -- by its descriptor, where that is no pad's
  framed_value : (d : TypeDescriptor) → is_pad d.kind ≡ false → and_then (value_at limit s at end d) as_handed ≡ and_then (frame_at limit s at end d) as_tile
  unfolding frame_at
  framed_value d n = rw n (sym (then_then (value_at limit s at end d) as_valued as_tile))

  handed_value : 15 ≤ get_or s at 0 → and_then (and_then (read_value limit s at end) as_item) handed ≡ tile_at limit Sequence s at end
  unfolding tile_at framed_at read_value read_frame descriptor_of
  handed_value h =
      then_then (and_then (peeked_descriptor s at end) (value_at limit s at end)) as_item handed
      ∙ then_then (peeked_descriptor s at end) (value_at limit s at end) as_handed
      ∙ then_same (peeked_each s at end) refl (λ d b.
      framed_value d (ap (λ (x : TypeDescriptor). is_pad x.kind) b.is ∙ no_pad_byte (get_or s at 0) h))
      ∙ sym (then_then (peeked_descriptor s at end) (frame_at limit s at end) as_tile)

  pub value_stepped : out_of_range limit ≡ false → at < end → end ≤ length s → 15 ≤ get_or s at 0 → value_from at (step_of limit Sequence s (record { at = at; end = end })).answer ≡ read_value limit s at end
  value_stepped g l m h =
      let o : Outcome Item = and_then (read_value limit s at end) as_item in
      ap (value_from at) (sym (answer_is limit Sequence s at end o (stop o) g (omega arith) m (answered limit Sequence s at end o l (handed_value h)) refl))
      ∙ from_item at (read_value limit s at end)

-- the entry's tests, one after the other, and then the step
module _ (limit : ℕ) (s : List ℕ) (start end at : ℕ) where
  pub limit_tested : out_of_range limit ≡ true → value_in limit s start end at ≡ refuses 68 0
  unfolding value_in
  limit_tested g = rw g

  pub start_tested : out_of_range limit ≡ false → at < start → value_in limit s start end at ≡ refuses 50 0
  unfolding value_in
  start_tested g l = rw (g, lt-ltb at start l)

  pub part_tested : out_of_range limit ≡ false → start ≤ at → outside_of s at end ≡ true → value_in limit s start end at ≡ refuses 50 0
  unfolding value_in
  part_tested g l e = rw (g, le-ltb at start l) (value_outside limit s at end e)

  pub end_tested : out_of_range limit ≡ false → start ≤ at → outside_of s at end ≡ false → at ≡ end → value_in limit s start end at ≡ refuses 1 end
  unfolding value_in
  end_tested g l e q = rw (g, le-ltb at start l) (value_at_end limit s at end e q)

  pub pad_tested : out_of_range limit ≡ false → start ≤ at → outside_of s at end ≡ false → (at ≡ end → ⊥) → get_or s at 0 < 15 → value_in limit s start end at ≡ refuses 22 at
  unfolding value_in
  pad_tested g l e n h = rw (g, le-ltb at start l) (value_at_pad limit s at end e n h)

  pub in_slice : outside_of s at end ≡ false → (at ≡ end → ⊥) → at < length s
  in_slice e n = omega (arith, inside_order s at end e, inside_end s at end e)

  pub stepped_to : out_of_range limit ≡ false → start ≤ at → outside_of s at end ≡ false → (at ≡ end → ⊥) → 15 ≤ get_or s at 0 → value_in limit s start end at ≡ value_from at (answer_at limit Sequence s at end)
  unfolding value_in
  stepped_to g l e n h =
      let o : at < end = omega (arith, inside_order s at end e) in
      rw (g, le-ltb at start l) (sym (value_stepped limit s at end g o (inside_end s at end e) h))

pub ruleset tested = (limit_tested, start_tested, part_tested, end_tested, pad_tested, stepped_to)
