-- What stands at a position is the same on two maps of one length that have the same bytes in the rest of the part, or in the header of the tile there but for
-- its annotations.
-- Assumes nothing.
use Prim.Native.Nat.{ℕ, ◌+◌, ◌-◌, ◌≤◌, ◌<◌}
use native.Mathlib.Omega.{arith}
use borrow.Author.Tests.{ltb-false}
use mathlib.Core.Path.{◌≡◌, ◌∙◌, sym, ap, subst}
use mathlib.Core.Bool.{not}
use mathlib.Core.Logic.{◌⊎◌, inl, inr, ⊎_elim}
use mathlib.Core.List.{List}
use lib.ListN.{length, get_or}
use lib.Dec.{ltb, eqb}
use Rattle.numbers.specs.Outcome.{Outcome, gives, and_then}
use Rattle.numbers.specs.Bytes.{Same}
use Rattle.numbers.specs.Answers.{Unsigned, var_uint}
use Rattle.numbers.proofs.Outcomes.{each_of, by_case, refuse_same, pick_same, then_same, refuse_gives, then_gives}
use Rattle.numbers.proofs.Meaning.{Bounded, var_uint_bounded}
use Rattle.numbers.proofs.Locality.{var_uint_local, var_uint_looked, looked_high}
use Rattle.framing.specs.Answers.{Frame, padding, valued, read_frame}
use Rattle.framing.specs.Spans.{Spans}
use Rattle.framing.specs.Format.{ValueBytes, plain, annotated}
use Rattle.framing.proofs.Bounds.{FrameIn, pad_in, value_in, frame_each}
use Rattle.framing.proofs.Soundness.{values-sound}
use Rattle.framing.proofs.Locality.{FrameIs, pad_is, value_is, frame_is, frame_local, value_given_local, pad_given_local}
use Rattle.stepping.specs.Items.{marker, value, field}
use Rattle.stepping.specs.Answers.{Tile, skip, hand, version_passes, marker_at, framed_at, as_tile, named_at, as_field, field_at, tile_at}
use Rattle.stepping.specs.declared.cursor.Rules.{Rules}
use Rattle.stepping.specs.declared.cursor.Rules.TheVariants.{Stream, Sequence, Fields}
use Rattle.runs.proofs.Nest.{Place}
use Rattle.runs.proofs.Standing.{value_place, closed_place, place_of}

module _ (limit : ℕ) (s t : List ℕ) (e : length s ≡ length t) where
  -- ---- the same bytes in the rest of the part

  -- a marker's bytes: those of the part, or its four
  marker_local : (at hi n : ℕ) → (hi ≤ n) ⊎ (at + 4 ≤ n) → Same s t at n → marker_at s at hi ≡ marker_at t at hi
  unfolding marker_at
  marker_local at hi n h same =
      refuse_same (ltb (hi - at) 4) 2 at (λ l.
      let room : 4 ≤ hi - at = ltb-false (hi - at) 4 l in
      let m : at + 4 ≤ n = ⊎_elim (λ (k : hi ≤ n). omega arith) (λ (k : at + 4 ≤ n). k) h in
      rw (same (at + 3) (omega arith) (omega arith), same (at + 1) (omega arith) (omega arith), same (at + 2) (omega arith) (omega arith)))

  framed_local : (at hi : ℕ) → Same s t at hi → framed_at limit s at hi ≡ framed_at limit t at hi
  unfolding framed_at
  framed_local at hi same = ap (λ (o : Outcome Frame). and_then o as_tile) (frame_local limit s t e at hi same)

  pub tile_local : (rules : Rules) (at hi : ℕ) → at < hi → Same s t at hi → tile_at limit rules s at hi ≡ tile_at limit rules t at hi
  unfolding tile_at field_at named_at
  tile_local Stream at hi h same =
      rw (← same at (omega arith) h)
      (pick_same (eqb (get_or s at 0) 224) (λ _. marker_local at hi hi (inl (omega arith)) same) (λ _. framed_local at hi same))
  tile_local Sequence at hi h same = framed_local at hi same
  tile_local Fields at hi h same =
      then_same (var_uint_bounded s at hi) (var_uint_local s t at hi e (λ i a b. same i a (omega (arith, looked_high s at hi)))) (λ u b.
      refuse_same (eqb u.next hi) 7 hi (λ _.
      ap (λ (o : Outcome Frame). and_then o (as_field u.value at)) (frame_local limit s t e u.next hi (λ i a c. same i (omega (arith, b.begins)) c))))

  -- ---- the same bytes in the header, but for the annotations

  -- of a tile at `at`: those before its annotations, and those from its descriptor to its body
  pub record SameHead (at : ℕ) (x : Place) : Type 0 where
    pub before : Same s t at x.annotations
    pub behind : Same s t x.descriptor x.body

  abbrev frame_place : Frame → Place
  frame_place (padding p) = closed_place p.body p.end
  frame_place (valued v) = value_place v

  frame_moves : (at hi : ℕ) {f : Frame} → SameHead at (frame_place f) → FrameIs limit s at hi f → read_frame limit t at hi ≡ gives f
  frame_moves at hi same (pad_is {p} r) = pad_given_local limit s t e at hi p same.before r
  frame_moves at hi same (value_is {v} r) = (value_given_local limit s t e at hi v (record { wrapper = same.before; value = same.behind }) r).1

  frame_given_local : (at hi : ℕ) (f : Frame) → read_frame limit s at hi ≡ gives f → SameHead at (frame_place f) → read_frame limit t at hi ≡ gives f
  frame_given_local at hi f q same = frame_moves at hi same (each_of (frame_is limit s at hi) q)

  -- the first byte of a frame is none of its annotations'
  first_same : (at hi : ℕ) (f : Frame) → read_frame limit s at hi ≡ gives f → SameHead at (frame_place f) → get_or s at 0 ≡ get_or t at 0
  first_same at hi f q = go (each_of (frame_is limit s at hi) q) (each_of (frame_each limit s at hi) q)
    where
      value_first : (v : Spans) → ValueBytes s at hi v → SameHead at (value_place v) → get_or s at 0 ≡ get_or t at 0
      value_first v (plain w) same = same.behind at (omega (arith, w.descriptor)) w.low
      value_first v (annotated w) same = same.before at (omega arith) (omega (arith, w.low, w.count.begins))

      go : {g : Frame} → FrameIs limit s at hi g → FrameIn at hi g → SameHead at (frame_place g) → get_or s at 0 ≡ get_or t at 0
      go (pad_is {p} r) (pad_in b) same = same.before at (omega arith) b.bodied
      go (value_is {v} r) o same = value_first v (values-sound limit s at hi v r).0 same

  -- the place of a tile is its frame's
  tile_place : (f : Frame) (x : Tile) → as_tile f ≡ gives x → place_of x ≡ frame_place f
  tile_place (padding p) x h = let q : skip p.body p.end ≡ x = cc in ap place_of (sym q)
  tile_place (valued v) x h = let q : hand (value v) ≡ x = cc in ap place_of (sym q)

  field_place : (id at : ℕ) (f : Frame) (x : Tile) → as_field id at f ≡ gives x → place_of x ≡ frame_place f
  field_place id at (padding p) x h = let q : skip p.body p.end ≡ x = cc in ap place_of (sym q)
  field_place id at (valued v) x h = let q : hand (field id at v) ≡ x = cc in ap place_of (sym q)

  framed_given_local : (at hi : ℕ) (x : Tile) → framed_at limit s at hi ≡ gives x → SameHead at (place_of x) → (framed_at limit t at hi ≡ gives x) × (get_or s at 0 ≡ get_or t at 0)
  unfolding framed_at
  framed_given_local at hi x h same =
      let w = then_gives (read_frame limit s at hi) as_tile h in
      let head : SameHead at (frame_place w.0) = subst (SameHead at) (tile_place w.0 x w.2) same in
      (rw (frame_given_local at hi w.0 w.1 head) w.2, first_same at hi w.0 w.1 head)

  -- a marker's tile has four bytes
  marker_place : (at hi : ℕ) (x : Tile) → marker_at s at hi ≡ gives x → place_of x ≡ closed_place (at + 4) (at + 4)
  unfolding marker_at
  marker_place at hi x h =
      let p = refuse_gives (ltb (hi - at) 4) 2 at h in
      let q = refuse_gives (not (eqb (get_or s (at + 3) 0) 234)) 21 at p.1 in
      let w = refuse_gives (not (version_passes (get_or s (at + 1) 0) (get_or s (at + 2) 0))) 60 at q.1 in
      let r : hand (marker at (get_or s (at + 1) 0) (get_or s (at + 2) 0) (at + 4)) ≡ x = cc in
      ap place_of (sym r)

  field_given_local : (at hi : ℕ) (x : Tile) → field_at limit s at hi ≡ gives x → SameHead at (place_of x) → field_at limit t at hi ≡ gives x
  unfolding field_at named_at
  field_given_local at hi x h same =
      let w = then_gives (var_uint s at hi) (named_at limit s at hi) h in
      let u : Unsigned = w.0 in
      let b : Bounded at hi u = each_of (var_uint_bounded s at hi) w.1 in
      let p = refuse_gives (eqb u.next hi) 7 hi w.2 in
      let g = then_gives (read_frame limit s u.next hi) (as_field u.value at) p.1 in
      let head : SameHead at (frame_place g.0) = subst (SameHead at) (field_place u.value at g.0 x g.2) same in
      let low : u.next ≤ (frame_place g.0).annotations = frame_low u.next hi g.0 g.1 in
      let v : var_uint t at hi ≡ gives u
      = sym (var_uint_local s t at hi e (λ i a c. head.before i a (omega (arith, var_uint_looked s at hi w.1)))) ∙ w.1 in
      let inner : SameHead u.next (frame_place g.0)
      = record { before = λ i a c. head.before i (omega (arith, b.begins)) c; behind = head.behind } in
      rw (v, p.0, frame_given_local u.next hi g.0 g.1 inner) g.2
    where
      frame_low : (next hi : ℕ) (f : Frame) → read_frame limit s next hi ≡ gives f → next ≤ (frame_place f).annotations
      frame_low next hi f q = low_of (each_of (frame_each limit s next hi) q)
        where
          low_of : {g : Frame} → FrameIn next hi g → next ≤ (frame_place g).annotations
          low_of (pad_in p) = omega (arith, p.bodied)
          low_of (value_in o) = o.annotated

  pub tile_given_local : (rules : Rules) (at hi : ℕ) (x : Tile) → tile_at limit rules s at hi ≡ gives x → SameHead at (place_of x) → tile_at limit rules t at hi ≡ gives x
  unfolding tile_at
  tile_given_local Stream at hi x h same =
      by_case (eqb (get_or s at 0) 224)
      (λ k.
      let m : marker_at s at hi ≡ gives x = rw k at h in
      let four : Same s t at (at + 4) = subst (λ (z : Place). Same s t at z.annotations) (marker_place at hi x m) same.before in
      rw (← four at (omega arith) (omega arith), k) (sym (marker_local at hi (at + 4) (inr (omega arith)) four) ∙ m))
      (λ k.
      let m : framed_at limit s at hi ≡ gives x = rw k at h in
      let w = framed_given_local at hi x m same in
      rw (← w.1, k) w.0)
  tile_given_local Sequence at hi x h same = (framed_given_local at hi x h same).0
  tile_given_local Fields at hi x h same = field_given_local at hi x h same
