-- What stands at a position of a part lies in it, past that position.
-- Assumes nothing.
use Prim.Native.Nat.{ℕ, ◌+◌, ◌-◌, ◌≤◌, ◌<◌}
use native.Mathlib.Omega.{arith}
use borrow.Author.Tests.{ltb-false}
use mathlib.Core.Path.{◌≡◌}
use mathlib.Core.Bool.{not}
use mathlib.Core.List.{List}
use lib.ListN.{length, get_or}
use lib.Dec.{ltb, eqb}
use Rattle.numbers.specs.Outcome.{gives}
use Rattle.numbers.proofs.Outcomes.{Each, given, each_refuse, each_pick, each_then, each_of, Proper, gave, proper_refuse, proper_pick, proper_then}
use Rattle.numbers.proofs.Meaning.{var_uint_bounded, var_uint_proper}
use Rattle.framing.specs.Answers.{Frame, padding, valued}
use Rattle.framing.specs.Spans.{Spans}
use Rattle.framing.proofs.Bounds.{FrameIn, pad_in, value_in, frame_each}
use Rattle.framing.proofs.Refusing.{frame_proper}
use Rattle.stepping.specs.Items.{Item, marker, value, field, item_end}
use Rattle.stepping.specs.Answers.{Tile, skip, hand, version_passes, marker_at, framed_at, as_tile, named_at, as_field, field_at, tile_at}
use Rattle.stepping.specs.declared.cursor.Rules.{Rules}
use Rattle.stepping.specs.declared.cursor.Rules.TheVariants.{Stream, Sequence, Fields}

-- a value's descriptor and body lie in at..end, and its header has a byte at least
pub record ValueIn (at end : ℕ) (v : Spans) : Type 0 where
  pub low : at ≤ v.descriptor
  pub bodied : v.descriptor < v.body
  pub ended : v.body ≤ v.end
  pub within : v.end ≤ end

pub data ItemIn (at end : ℕ) : Item → Type 0 where
  a_marker : {a x y e : ℕ} → at < e → e ≤ end → ItemIn at end (marker a x y e)
  a_value : {v : Spans} → ValueIn at end v → ItemIn at end (value v)
  a_field : {id a : ℕ} {v : Spans} → ValueIn at end v → ItemIn at end (field id a v)

pub data TileIn (at end : ℕ) : Tile → Type 0 where
  skip_in : {b e : ℕ} → at < b → b ≤ e → e ≤ end → TileIn at end (skip b e)
  hand_in : {i : Item} → ItemIn at end i → TileIn at end (hand i)

marker_each : (s : List ℕ) (at end : ℕ) → Each (TileIn at end) (marker_at s at end)
unfolding marker_at
marker_each s at end =
    each_refuse (ltb (end - at) 4) 2 at (λ l.
    each_refuse (not (eqb (get_or s (at + 3) 0) 234)) 21 at (λ _.
    each_refuse (not (version_passes (get_or s (at + 1) 0) (get_or s (at + 2) 0))) 60 at (λ _.
    given (hand_in (a_marker {e = at + 4} (omega arith) (omega (arith, ltb-false (end - at) 4 l)))))))

-- of a frame that begins at `next`, after a field ID or after nothing
framed_each : (at next end : ℕ) → at ≤ next → {f : Frame} → FrameIn next end f → (id : ℕ) → Each (TileIn at end) (as_tile f) × Each (TileIn at end) (as_field id at f)
framed_each at next end h (pad_in {p} q) id =
    let l : at < p.body = omega (arith, q.bodied) in
    (given (skip_in l q.ended q.within), given (skip_in l q.ended q.within))
framed_each at next end h (value_in {v} o) id =
    let r : ValueIn at end v = record { low = omega (arith, o.annotated, o.described); bodied = o.bodied; ended = o.ended; within = o.within } in
    (given (hand_in (a_value r)), given (hand_in (a_field r)))

tile_each : (limit : ℕ) (rules : Rules) (s : List ℕ) (at end : ℕ) → Each (TileIn at end) (tile_at limit rules s at end)
unfolding tile_at framed_at field_at named_at
tile_each limit Stream s at end =
    each_pick (eqb (get_or s at 0) 224) (λ _. marker_each s at end)
    (λ _. each_then (frame_each limit s at end) (λ f i. (framed_each at at end (omega arith) i 0).0))
tile_each limit Sequence s at end = each_then (frame_each limit s at end) (λ f i. (framed_each at at end (omega arith) i 0).0)
tile_each limit Fields s at end =
    each_then (var_uint_bounded s at end) (λ u b.
    each_refuse (eqb u.next end) 7 end (λ _.
    each_then (frame_each limit s u.next end) (λ f i. (framed_each at u.next end (omega (arith, b.begins)) i u.value).1)))

pub tile_in : (limit : ℕ) (rules : Rules) (s : List ℕ) (at end : ℕ) {t : Tile} → tile_at limit rules s at end ≡ gives t → TileIn at end t
tile_in limit rules s at end q = each_of (tile_each limit rules s at end) q

skip_bounds : {at end b e : ℕ} → TileIn at end (skip b e) → (at < b) × (b ≤ e) × (e ≤ end)
skip_bounds (skip_in p q r) = (p, q, r)

hand_item : {at end : ℕ} {i : Item} → TileIn at end (hand i) → ItemIn at end i
hand_item (hand_in i) = i

value_ends : {at end : ℕ} {v : Spans} → ValueIn at end v → (at < v.end) × (v.end ≤ end)
value_ends v = (omega (arith, v.low, v.bodied, v.ended), v.within)

pub in_ends : {at end : ℕ} {i : Item} → ItemIn at end i → (at < item_end i) × (item_end i ≤ end)
in_ends (a_marker p q) = (p, q)
in_ends (a_value v) = value_ends v
in_ends (a_field v) = value_ends v

pub pad_ends : (limit : ℕ) (rules : Rules) (s : List ℕ) {at end b e : ℕ} → tile_at limit rules s at end ≡ gives (skip b e) → (at < b) × (b ≤ e) × (e ≤ end)
pad_ends limit rules s {at} {end} q = skip_bounds (tile_in limit rules s at end q)

pub item_in : (limit : ℕ) (rules : Rules) (s : List ℕ) {at end : ℕ} {i : Item} → tile_at limit rules s at end ≡ gives (hand i) → ItemIn at end i
item_in limit rules s {at} {end} q = hand_item (tile_in limit rules s at end q)

-- in a part of the slice nothing is refused with 50
frame_as_tile : (f : Frame) (id at : ℕ) → Proper (as_tile f) × Proper (as_field id at f)
frame_as_tile (padding p) id at = (gave, gave)
frame_as_tile (valued v) id at = (gave, gave)

pub tile_proper : (limit : ℕ) (rules : Rules) (s : List ℕ) (at end : ℕ) → at ≤ end → end ≤ length s → Proper (tile_at limit rules s at end)
unfolding tile_at framed_at field_at named_at marker_at
tile_proper limit Stream s at end h k =
    proper_pick (eqb (get_or s at 0) 224)
    (proper_refuse (ltb (end - at) 4) 2 at (λ e. omega arith) (λ _.
    proper_refuse (not (eqb (get_or s (at + 3) 0) 234)) 21 at (λ e. omega arith) (λ _.
    proper_refuse (not (version_passes (get_or s (at + 1) 0) (get_or s (at + 2) 0))) 60 at (λ e. omega arith) (λ _. gave))))
    (proper_then (frame_each limit s at end) (frame_proper limit s end k at h) (λ f i. (frame_as_tile f 0 at).0))
tile_proper limit Sequence s at end h k = proper_then (frame_each limit s at end) (frame_proper limit s end k at h) (λ f i. (frame_as_tile f 0 at).0)
tile_proper limit Fields s at end h k =
    proper_then (var_uint_bounded s at end) (var_uint_proper s at end h k) (λ u b.
    proper_refuse (eqb u.next end) 7 end (λ e. omega arith) (λ _.
    proper_then (frame_each limit s u.next end) (frame_proper limit s end k u.next b.ends) (λ f i. (frame_as_tile f u.value at).1)))
