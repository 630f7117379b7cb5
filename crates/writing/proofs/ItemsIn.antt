-- What a step answers lies in its part, a value's annotations too.
-- Assumes nothing.
use Prim.Native.Nat.{ℕ, zero, suc, ◌+◌, ◌-◌, ◌≤◌, ◌<◌}
use native.Mathlib.Omega.{arith}
use borrow.Author.Tests.{ltb-false}
use mathlib.Core.Bool.{not}
use mathlib.Core.List.{List}
use lib.ListN.{get_or}
use lib.Dec.{ltb, eqb}
use Rattle.numbers.specs.Outcome.{Outcome, outside_of}
use Rattle.numbers.proofs.Outcomes.{by_test, Each, given, refused, each_refuse, each_pick, each_then}
use Rattle.numbers.proofs.Meaning.{var_uint_bounded}
use Rattle.framing.specs.Spans.{Spans}
use Rattle.framing.specs.Limits.{out_of_range}
use Rattle.framing.specs.Answers.{Frame}
use Rattle.framing.proofs.Bounds.{FrameIn, pad_in, value_in, frame_each}
use Rattle.stepping.specs.Items.{Item, finish, marker, value, field}
use Rattle.stepping.specs.Answers.{Tile, skip, hand, version_passes, marker_at, as_tile, framed_at, as_field, named_at, field_at, tile_at, Found, on_tile, skip_pads, found}
use Rattle.stepping.specs.Runs.{cursor}
use Rattle.stepping.specs.declared.cursor.Rules.{Rules}
use Rattle.stepping.specs.declared.cursor.Rules.TheVariants.{Stream, Sequence, Fields}

-- a value's places, in order, in at..end
pub record PlacesIn (at end : ℕ) (v : Spans) : Type 0 where
  pub annotated : at ≤ v.annotations
  pub described : v.annotations ≤ v.descriptor
  pub bodied : v.descriptor < v.body
  pub ended : v.body ≤ v.end
  pub within : v.end ≤ end

abbrev pub ItemIn : ℕ → ℕ → Item → Type 0
ItemIn at end (finish p) = Unit {0}
ItemIn at end (marker a x y e) = (at < e) × (e ≤ end)
ItemIn at end (value v) = PlacesIn at end v
ItemIn at end (field id a v) = PlacesIn at end v

abbrev TileIn : ℕ → ℕ → Tile → Type 0
TileIn at end (skip b e) = (at < e) × (e ≤ end)
TileIn at end (hand i) = ItemIn at end i

-- of a frame that begins at `next`, after a field ID or after nothing
frame_in : (at next end : ℕ) → at ≤ next → {f : Frame} → FrameIn next end f → (id : ℕ) → Each (TileIn at end) (as_tile f) × Each (TileIn at end) (as_field id at f)
frame_in at next end h (pad_in {p} q) id =
    let l : at < p.end = omega (arith, q.bodied, q.ended) in
    (given {a = skip p.body p.end} (l, q.within), given {a = skip p.body p.end} (l, q.within))
frame_in at next end h (value_in {v} o) id =
    let r : PlacesIn at end v = record { annotated = omega (arith, o.annotated); described = o.described; bodied = o.bodied; ended = o.ended; within = o.within } in
    (given {a = hand (value v)} r, given {a = hand (field id at v)} r)

tile_in : (limit : ℕ) (rules : Rules) (s : List ℕ) (at end : ℕ) → Each (TileIn at end) (tile_at limit rules s at end)
unfolding tile_at framed_at field_at named_at marker_at
tile_in limit Stream s at end =
    each_pick (eqb (get_or s at 0) 224)
    (λ _.
    each_refuse (ltb (end - at) 4) 2 at (λ l.
    each_refuse (not (eqb (get_or s (at + 3) 0) 234)) 21 at (λ _.
    each_refuse (not (version_passes (get_or s (at + 1) 0) (get_or s (at + 2) 0))) 60 at (λ _.
    given {a = hand (marker at (get_or s (at + 1) 0) (get_or s (at + 2) 0) (at + 4))} (omega arith, omega (arith, ltb-false (end - at) 4 l))))))
    (λ _. each_then (frame_each limit s at end) (λ f i. (frame_in at at end (omega arith) i 0).0))
tile_in limit Sequence s at end = each_then (frame_each limit s at end) (λ f i. (frame_in at at end (omega arith) i 0).0)
tile_in limit Fields s at end =
    each_then (var_uint_bounded s at end) (λ u b.
    each_refuse (eqb u.next end) 7 end (λ _.
    each_then (frame_each limit s u.next end) (λ f i. (frame_in at u.next end (omega (arith, b.begins)) i u.value).1)))

-- it lies in more
earlier : (at at' end : ℕ) (x : Item) → at ≤ at' → ItemIn at' end x → ItemIn at end x
earlier at at' end (finish p) l h = tt
earlier at at' end (marker a x y e) l h = (omega (arith, h.0), h.1)
earlier at at' end (value v) l h = record { annotated = omega (arith, h.annotated); described = h.described; bodied = h.bodied; ended = h.ended; within = h.within }
earlier at at' end (field id a v) l h = record { annotated = omega (arith, h.annotated); described = h.described; bodied = h.bodied; ended = h.ended; within = h.within }

each_earlier : (at at' end : ℕ) {o : Outcome Item} → at ≤ at' → Each (ItemIn at' end) o → Each (ItemIn at end) o
each_earlier at at' end l (given {a} h) = given (earlier at at' end a l h)
each_earlier at at' end l refused = refused

on-tile : (at end : ℕ) (go : ℕ → Found) → ((e : ℕ) → at < e → e ≤ end → Each (ItemIn e end) (go e).answer) → {o : Outcome Tile} → Each (TileIn at end) o → Each (ItemIn at end) (on_tile at go o).answer
on-tile at end go h (given {a = skip b e} p) = each_earlier at e end (omega (arith, p.0)) (h e p.0 p.1)
on-tile at end go h (given {a = hand i} p) = given p
on-tile at end go h refused = refused

pads_in : (limit j : ℕ) (rules : Rules) (s : List ℕ) (end at : ℕ) → Each (ItemIn at end) (skip_pads limit j rules s end at).answer
unfolding skip_pads
pads_in limit zero rules s end at = given {a = finish end} tt
pads_in limit (suc j) rules s end at =
    by_test (λ (f : Found). Each (ItemIn at end) f.answer) (ltb at end)
    (λ _. on-tile at end (skip_pads limit j rules s end) (λ e _ _. pads_in limit j rules s end e) (tile_in limit rules s at end))
    (λ _. given {a = finish end} tt)

pub found_in : (limit : ℕ) (rules : Rules) (s : List ℕ) (at end : ℕ) → Each (ItemIn at end) (found limit rules s (cursor at end)).answer
unfolding found
found_in limit rules s at end =
    by_test (λ (f : Found). Each (ItemIn at end) f.answer) (out_of_range limit) (λ _. refused) (λ _.
    by_test (λ (f : Found). Each (ItemIn at end) f.answer) (outside_of s at end) (λ _. refused) (λ _. pads_in limit (end - at) rules s end at))
