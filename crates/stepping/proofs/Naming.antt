-- A tile is a name and what stands behind it, by each of the rules; and so a step that is entered behind a name that was read is the step.
-- Assumes nothing.
use Prim.Native.Nat.{ℕ, suc, ◌+◌, ◌-◌, ◌≤◌, ◌<◌}
use native.Mathlib.Omega.{arith}
use borrow.Author.Tests.{ltb-true, ltb-false, lt-ltb, le-ltb}
use mathlib.Core.Path.{◌≡◌, refl, ◌∙◌, sym, ap}
use mathlib.Core.Bool.{true, false, not}
use mathlib.Core.List.{List}
use lib.ListN.{length, get_or}
use lib.Dec.{ltb, eqb}
use Rattle.numbers.specs.Outcome.{Outcome, gives, refuses, pick, and_then, outside_of}
use Rattle.numbers.specs.Answers.{Unsigned, var_uint}
use Rattle.numbers.proofs.Outcomes.{by_case, by_test, inside, inside_order, inside_end, refuse_same, refuse_first, then_then, then_like, Each, given, each_refuse, each_pick, each_then, each_of}
use Rattle.numbers.proofs.Meaning.{var_uint_bounded}
use Rattle.framing.specs.Limits.{out_of_range}
use Rattle.framing.specs.Spans.{Spans}
use Rattle.framing.specs.Answers.{Frame, padding, valued, read_frame}
use Rattle.framing.proofs.Bounds.{FrameIn, pad_in, value_in, frame_each}
use Rattle.stepping.specs.Items.{Item, finish, value}
use Rattle.stepping.specs.Answers.{Tile, skip, hand, version_passes, marker_at, as_tile, framed_at, as_field, named_at, field_at, tile_at, Found, stop, on_tile, skip_pads, found, step_of, answer_at}
use Rattle.stepping.specs.Names.{followed, field_id, name_at, name_from, item_by, tile_by, tile_behind, is_marker, tile_from, found_from, answer_from}
use Rattle.stepping.specs.declared.cursor.Rules.{Rules}
use Rattle.stepping.specs.declared.cursor.Rules.TheVariants.{Stream, Sequence, Fields}
use Rattle.stepping.proofs.PadSkipping.{skipping, of_skipping}

-- ---- a tile

-- a frame's tile where the rules want nothing before it
by_itself : (rules : Rules) (at : ℕ) → ((v : Spans) → value v ≡ item_by rules at 0 v) → (f : Frame) → as_tile f ≡ tile_by rules at 0 f
by_itself rules at e (padding p) = refl
by_itself rules at e (valued v) = ap (λ (i : Item). gives (hand i)) (e v)

by_fields : (at id : ℕ) (f : Frame) → as_field id at f ≡ tile_by Fields at id f
by_fields at id (padding p) = refl
by_fields at id (valued v) = refl

module _ (limit : ℕ) (s : List ℕ) (at end : ℕ) where
  named_field : (u : Unsigned) → named_at limit s at end u ≡ and_then (followed end u) (tile_behind limit Fields s at end)
  unfolding named_at followed tile_behind
  named_field u =
      refuse_same (eqb u.next end) 7 end (λ _. then_like (read_frame limit s u.next end) (by_fields at u.value))
      ∙ sym (refuse_first (eqb u.next end) 7 end (gives u) (tile_behind limit Fields s at end))

  -- what stands where no marker begins
  unnamed : (rules : Rules) → Outcome Tile
  unnamed Stream = framed_at limit s at end
  unnamed Sequence = framed_at limit s at end
  unnamed Fields = field_at limit s at end

  named : (rules : Rules) → unnamed rules ≡ and_then (name_at rules s at end) (tile_behind limit rules s at end)
  unfolding unnamed framed_at field_at field_id tile_behind
  named Stream = then_like (read_frame limit s at end) (by_itself Stream at (λ v. refl))
  named Sequence = then_like (read_frame limit s at end) (by_itself Sequence at (λ v. refl))
  named Fields =
      then_like (var_uint s at end) named_field ∙ sym (then_then (var_uint s at end) (followed end) (tile_behind limit Fields s at end))

  by_marker : (rules : Rules) → tile_at limit rules s at end ≡ pick (is_marker rules (get_or s at 0)) (marker_at s at end) (unnamed rules)
  unfolding tile_at unnamed
  by_marker Stream = refl
  by_marker Sequence = refl
  by_marker Fields = refl

  pub tile_named : (rules : Rules) → is_marker rules (get_or s at 0) ≡ false → tile_at limit rules s at end ≡ and_then (name_at rules s at end) (tile_behind limit rules s at end)
  tile_named rules e =
      let chosen : tile_at limit rules s at end ≡ unnamed rules = by_marker rules ∙ (rw e) in chosen ∙ named rules

  pub tile-from : (rules : Rules) (u : Unsigned) → name_from rules s at end u ≡ name_at rules s at end → tile_from limit rules s at end u ≡ tile_at limit rules s at end
  unfolding tile_from
  tile-from rules u e =
      let q : and_then (name_from rules s at end u) (tile_behind limit rules s at end) ≡ unnamed rules = (rw e) ∙ sym (named rules) in
      (rw q) ∙ sym (by_marker rules)

-- ---- a name that was read, and one that was not

pub name_read : (rules : Rules) (s : List ℕ) (at end : ℕ) (u : Unsigned) → name_at rules s at end ≡ gives u → name_from rules s at end u ≡ name_at rules s at end
unfolding name_from
name_read rules s at end u e = by_test (λ (o : Outcome Unsigned). o ≡ name_at rules s at end) (ltb at u.next) (λ _. sym e) (λ _. refl)

pub name_unread : (rules : Rules) (s : List ℕ) (at end : ℕ) (u : Unsigned) → u.next ≤ at → name_from rules s at end u ≡ name_at rules s at end
unfolding name_from
name_unread rules s at end u h = rw (le-ltb at u.next h)

-- ---- a pad ends in the part, past the position

data Onward (at end : ℕ) : Tile → Type 0 where
  skips : {b e : ℕ} → at < e → e ≤ end → Onward at end (skip b e)
  hands : {i : Item} → Onward at end (hand i)

record Reaches (at : ℕ) (u : Unsigned) : Type 0 where
  reaches : at ≤ u.next

name_each : (rules : Rules) (s : List ℕ) (at end : ℕ) → Each (Reaches at) (name_at rules s at end)
unfolding field_id followed
name_each Stream s at end = given {a = record { value = 0; next = at }} (record { reaches = omega arith })
name_each Sequence s at end = given {a = record { value = 0; next = at }} (record { reaches = omega arith })
name_each Fields s at end =
    each_then (var_uint_bounded s at end) (λ u b.
    each_refuse (eqb u.next end) 7 end (λ _. given {a = u} (record { reaches = omega (arith, b.begins) })))

name_from_each : (rules : Rules) (s : List ℕ) (at end : ℕ) (u : Unsigned) → Each (Reaches at) (name_from rules s at end u)
unfolding name_from
name_from_each rules s at end u =
    each_pick (ltb at u.next) (λ t. given {a = u} (record { reaches = omega (arith, ltb-true at u.next t) })) (λ _. name_each rules s at end)

framed_onward : (rules : Rules) (at next end id : ℕ) → at ≤ next → {f : Frame} → FrameIn next end f → Each (Onward at end) (tile_by rules at id f)
framed_onward rules at next end id h (pad_in {p} q) = given (skips {e = p.end} (omega (arith, q.bodied, q.ended)) q.within)
framed_onward rules at next end id h (value_in {v} o) = given hands

marked_onward : (s : List ℕ) (at end : ℕ) → Each (Onward at end) (marker_at s at end)
unfolding marker_at
marked_onward s at end =
    each_refuse (ltb (end - at) 4) 2 at (λ _.
    each_refuse (not (eqb (get_or s (at + 3) 0) 234)) 21 at (λ _.
    each_refuse (not (version_passes (get_or s (at + 1) 0) (get_or s (at + 2) 0))) 60 at (λ _. given hands)))

tile_onward : (limit : ℕ) (rules : Rules) (s : List ℕ) (at end : ℕ) (u : Unsigned) → Each (Onward at end) (tile_from limit rules s at end u)
unfolding tile_from tile_behind
tile_onward limit rules s at end u =
    each_pick (is_marker rules (get_or s at 0)) (λ _. marked_onward s at end) (λ _.
    each_then (name_from_each rules s at end u) (λ w r.
    each_then (frame_each limit s w.next end) (λ f i. framed_onward rules at w.next end w.value r.reaches i)))

skips_on : {at end b e : ℕ} → Onward at end (skip b e) → (at < e) × (e ≤ end)
skips_on (skips p q) = (p, q)

pub pad_onward : (limit : ℕ) (rules : Rules) (s : List ℕ) (at end : ℕ) (u : Unsigned) {b e : ℕ} → tile_from limit rules s at end u ≡ gives (skip b e) → (at < e) × (e ≤ end)
pad_onward limit rules s at end u q = skips_on (each_of (tile_onward limit rules s at end u) q)

-- ---- a step that is entered behind a name

-- with more fuel than a part's length a step passes the pads as it does
skip_pads_found : (limit : ℕ) (rules : Rules) (s : List ℕ) (k at end : ℕ) → out_of_range limit ≡ false → at ≤ end → end ≤ length s → end - at ≤ k → skip_pads limit k rules s end at ≡ found limit rules s (record { at = at; end = end })
skip_pads_found limit rules s k at end g l m f = of_skipping limit rules s end g l m (skipping limit rules s end k at l f)

module _ (limit : ℕ) (rules : Rules) (s : List ℕ) (at end : ℕ) (u : Unsigned) where
  from_unranged : out_of_range limit ≡ true → found_from limit rules s at end u ≡ found limit rules s (record { at = at; end = end })
  unfolding found_from found
  from_unranged g = rw g

  from_outside : outside_of s at end ≡ true → found_from limit rules s at end u ≡ found limit rules s (record { at = at; end = end })
  unfolding found_from found
  from_outside o = rw o

  from_tile : out_of_range limit ≡ false → outside_of s at end ≡ false → at < end → name_from rules s at end u ≡ name_at rules s at end → found_from limit rules s at end u ≡ skip_pads limit (suc (end - at)) rules s end at
  unfolding found_from skip_pads
  from_tile g o l e = rw (g, o, lt-ltb at end l, tile-from limit s at end rules u e)

  from_end : out_of_range limit ≡ false → outside_of s at end ≡ false → end ≤ at → found_from limit rules s at end u ≡ skip_pads limit (suc (end - at)) rules s end at
  unfolding found_from skip_pads
  from_end g o h = rw (g, o, le-ltb at end h)

  -- it is the step, where the name that was read is the name
  pub found-from : (at < end → name_from rules s at end u ≡ name_at rules s at end) → found_from limit rules s at end u ≡ found limit rules s (record { at = at; end = end })
  found-from name =
      by_case (out_of_range limit) from_unranged (λ g.
      by_case (outside_of s at end) from_outside (λ o. within g o ∙ skip_pads_found limit rules s (suc (end - at)) at end g (inside_order s at end o) (inside_end s at end o) (omega arith)))
    where
      within : out_of_range limit ≡ false → outside_of s at end ≡ false → found_from limit rules s at end u ≡ skip_pads limit (suc (end - at)) rules s end at
      within g o =
          by_case (ltb at end) (λ t. from_tile g o (ltb-true at end t) (name (ltb-true at end t))) (λ t. from_end g o (ltb-false at end t))

  pub answer-from : (at < end → name_from rules s at end u ≡ name_at rules s at end) → answer_from limit rules s at end u ≡ answer_at limit rules s at end
  unfolding step_of
  answer-from name = ap (λ (f : Found). f.answer) (found-from name)

-- a step of whose name nothing is read
pub answer_unread : (limit : ℕ) (rules : Rules) (s : List ℕ) (at end id : ℕ) → answer_from limit rules s at end (record { value = id; next = at }) ≡ answer_at limit rules s at end
answer_unread limit rules s at end id =
    answer-from limit rules s at end (record { value = id; next = at }) (λ _. name_unread rules s at end (record { value = id; next = at }) (omega arith))

-- what it answers where a tile stands that is no pad, behind a pad, outside the slice, and at the part's end
module _ (limit : ℕ) (rules : Rules) (s : List ℕ) (at end : ℕ) (u : Unsigned) (g : out_of_range limit ≡ false) (l : at < end) (m : end ≤ length s) where
  entered : found_from limit rules s at end u ≡ on_tile at (skip_pads limit (end - at) rules s end) (tile_from limit rules s at end u)
  unfolding found_from
  entered = rw (g, inside s at end (omega arith) m, lt-ltb at end l)

  -- it is what is made of the tile there
  answered : (t : Outcome Tile) → tile_from limit rules s at end u ≡ t → answer_from limit rules s at end u ≡ (on_tile at (skip_pads limit (end - at) rules s end) t).answer
  answered t h = ap (λ (f : Found). f.answer) entered ∙ ap (λ (x : Outcome Tile). (on_tile at (skip_pads limit (end - at) rules s end) x).answer) h

  pub from_hand : {i : Item} → tile_from limit rules s at end u ≡ gives (hand i) → answer_from limit rules s at end u ≡ gives i
  from_hand {i} h = answered (gives (hand i)) h

  pub from_refusal : {n p : ℕ} → tile_from limit rules s at end u ≡ refuses n p → answer_from limit rules s at end u ≡ refuses n p
  from_refusal {n} {p} h = answered (refuses n p) h

  pub from_pad : (id b e : ℕ) → tile_from limit rules s at end u ≡ gives (skip b e) → answer_from limit rules s e end (record { value = id; next = e }) ≡ answer_from limit rules s at end u
  unfolding step_of
  from_pad id b e h =
      let p = pad_onward limit rules s at end u h in
      answer_unread limit rules s e end id
      ∙ sym (ap (λ (f : Found). f.answer) (skip_pads_found limit rules s (end - at) e end g p.1 m (omega (arith, p.0))))
      ∙ sym (ap (λ (t : Outcome Tile). (on_tile at (skip_pads limit (end - at) rules s end) t).answer) h)
      ∙ sym (ap (λ (f : Found). f.answer) entered)

outside_stop : (limit : ℕ) (rules : Rules) (s : List ℕ) (at end : ℕ) (u : Unsigned) → out_of_range limit ≡ false → outside_of s at end ≡ true → found_from limit rules s at end u ≡ stop (refuses 50 0)
unfolding found_from
outside_stop limit rules s at end u g o = rw (g, o)

-- and with a limit that is none
unranged_stop : (limit : ℕ) (rules : Rules) (s : List ℕ) (at end : ℕ) (u : Unsigned) → out_of_range limit ≡ true → found_from limit rules s at end u ≡ stop (refuses 68 0)
unfolding found_from
unranged_stop limit rules s at end u g = rw g

pub from_unlimited : (limit : ℕ) (rules : Rules) (s : List ℕ) (at end : ℕ) (u : Unsigned) → out_of_range limit ≡ true → refuses 68 0 ≡ answer_from limit rules s at end u
from_unlimited limit rules s at end u g = sym (ap (λ (f : Found). f.answer) (unranged_stop limit rules s at end u g))

pub from_nowhere : (limit : ℕ) (rules : Rules) (s : List ℕ) (at end : ℕ) (u : Unsigned) → out_of_range limit ≡ false → outside_of s at end ≡ true → refuses 50 0 ≡ answer_from limit rules s at end u
from_nowhere limit rules s at end u g o = sym (ap (λ (f : Found). f.answer) (outside_stop limit rules s at end u g o))

from_stop : (limit : ℕ) (rules : Rules) (s : List ℕ) (end : ℕ) (u : Unsigned) → out_of_range limit ≡ false → end ≤ length s → found_from limit rules s end end u ≡ stop (gives (finish end))
unfolding found_from
from_stop limit rules s end u g m = rw (g, inside s end end (omega arith) m, le-ltb end end (omega arith))

pub from_part_end : (limit : ℕ) (rules : Rules) (s : List ℕ) (end : ℕ) (u : Unsigned) → out_of_range limit ≡ false → end ≤ length s → gives (finish end) ≡ answer_from limit rules s end end u
from_part_end limit rules s end u g m = sym (ap (λ (f : Found). f.answer) (from_stop limit rules s end u g m))

-- what the step's own proof goes by
pub ruleset step_laws = (from_unlimited, from_nowhere, from_hand, from_refusal, from_pad, from_part_end, pad_onward, inside_order, inside_end)
