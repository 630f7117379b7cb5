-- The same bytes n further on are stepped the same: as many pads are passed, and what is answered stands n further on.
-- Assumes nothing.
use Prim.Native.Nat.{ℕ, zero, suc, ◌+◌, ◌-◌, ◌≤◌, ◌<◌}
use native.Mathlib.Omega.{arith}
use borrow.Author.Tests.{ltb-true, ltb-false, lt-ltb, le-ltb}
use mathlib.Core.Path.{◌≡◌, refl, ap}
use mathlib.Core.Bool.{Bool, true, false, not}
use mathlib.Core.List.{List}
use lib.ListN.{length, get_or}
use lib.Dec.{ltb, eqb}
use Rattle.numbers.specs.Outcome.{Outcome, gives, pick}
use Rattle.numbers.proofs.Outcomes.{by_case, inside, each_of}
use Rattle.numbers.proofs.Meaning.{Bounded, var_uint_bounded}
use Rattle.numbers.proofs.Moving.{Moved, given_on, refused_on, moved_refuse, moved_pick, moved_then, same_moved, var_uint_moved}
use Rattle.framing.specs.Limits.{out_of_range}
use Rattle.framing.specs.Answers.{Frame, padding, valued}
use Rattle.stepping.specs.Items.{Item, finish, marker, value, field}
use Rattle.stepping.specs.Answers.{Tile, skip, hand, version_passes, marker_at, as_tile, framed_at, as_field, named_at, field_at, tile_at, Found, stop, on_tile, skip_pads, found}
use Rattle.stepping.specs.Runs.{cursor}
use Rattle.stepping.specs.declared.cursor.Rules.{Rules}
use Rattle.stepping.specs.declared.cursor.Rules.TheVariants.{Stream, Sequence, Fields}
use Rattle.stepping.proofs.Places.{pad_ends}
use Rattle.writing.proofs.FramesMoved.{moved_spans, moved_frame, frame_moved, further, between}

abbrev pub moved_item : ℕ → Item → Item
moved_item n (finish p) = finish (n + p)
moved_item n (marker a x y e) = marker (n + a) x y (n + e)
moved_item n (value v) = value (moved_spans n v)
moved_item n (field id a v) = field id (n + a) (moved_spans n v)

abbrev moved_tile : ℕ → Tile → Tile
moved_tile n (skip b e) = skip (n + b) (n + e)
moved_tile n (hand i) = hand (moved_item n i)

-- a step that passes as many pads and answers n further on
pub record StepMoved (n : ℕ) (f g : Found) : Type 0 where
  pub pads : length g.pads ≡ length f.pads
  pub answer : Moved n (moved_item n) f.answer g.answer

less_moved : (n a b : ℕ) → ltb (n + a) (n + b) ≡ ltb a b
less_moved n a b =
    by_case (ltb a b)
    (λ e. rw (e, lt-ltb (n + a) (n + b) (omega (arith, ltb-true a b e))))
    (λ e. rw (e, le-ltb (n + a) (n + b) (omega (arith, ltb-false a b e))))

as_tile_moved : (n : ℕ) (f : Frame) → Moved n (moved_tile n) (as_tile f) (as_tile (moved_frame n f))
as_tile_moved n (padding p) = given_on
as_tile_moved n (valued v) = given_on

as_field_moved : (n id at : ℕ) (f : Frame) → Moved n (moved_tile n) (as_field id at f) (as_field id (n + at) (moved_frame n f))
as_field_moved n id at (padding p) = given_on
as_field_moved n id at (valued v) = given_on

module _ (limit : ℕ) (s t : List ℕ) (n start end : ℕ) (k : end ≤ length s) (k' : n + end ≤ length t) (same : (i : ℕ) → start ≤ i → i < end → get_or s i 0 ≡ get_or t (n + i) 0) where
  marker_moved : (at : ℕ) → start ≤ at → at < end → Moved n (moved_tile n) (marker_at s at end) (marker_at t (n + at) (n + end))
  unfolding marker_at
  marker_moved at a b =
      rw (between n end at, further n at 3, further n at 1, further n at 2, further n at 4)
      (moved_refuse (ltb (end - at) 4) 2 at (λ l.
      let m : 4 ≤ end - at = ltb-false (end - at) 4 l in
      rw (← same (at + 3) (omega arith) (omega arith), ← same (at + 1) (omega arith) (omega arith), ← same (at + 2) (omega arith) (omega arith))
      (moved_refuse (not (eqb (get_or s (at + 3) 0) 234)) 21 at (λ _.
      moved_refuse (not (version_passes (get_or s (at + 1) 0) (get_or s (at + 2) 0))) 60 at (λ _. given_on)))))

  framed_moved : (at : ℕ) → start ≤ at → at ≤ end → Moved n (moved_tile n) (framed_at limit s at end) (framed_at limit t (n + at) (n + end))
  unfolding framed_at
  framed_moved at a b =
      moved_then as_tile as_tile (frame_moved limit s t n start end k k' same at a b) (λ f _. as_tile_moved n f)

  tile_moved : (rules : Rules) (at : ℕ) → start ≤ at → at < end → Moved n (moved_tile n) (tile_at limit rules s at end) (tile_at limit rules t (n + at) (n + end))
  unfolding tile_at field_at named_at
  tile_moved Stream at a b =
      rw (← same at a b)
      (moved_pick (eqb (get_or s at 0) 224) (λ _. marker_moved at a b) (λ _. framed_moved at a (omega arith)))
  tile_moved Sequence at a b = framed_moved at a (omega arith)
  tile_moved Fields at a b =
      moved_then (named_at limit s at end) (named_at limit t (n + at) (n + end)) (var_uint_moved s t n at end (omega arith) k k' (λ i p q. same i (omega arith) q)) (λ u q.
      let r : Bounded at end u = each_of (var_uint_bounded s at end) q in
      rw (same_moved n u.next end)
      (moved_refuse (eqb u.next end) 7 end (λ _.
      moved_then (as_field u.value at) (as_field u.value (n + at)) (frame_moved limit s t n start end k k' same u.next (omega (arith, r.begins)) r.ends) (λ f _. as_field_moved n u.value at f))))

  tile_on : (rules : Rules) (at : ℕ) (go go' : ℕ → Found) → ((b e : ℕ) → tile_at limit rules s at end ≡ gives (skip b e) → StepMoved n (go e) (go' (n + e))) → {o o' : Outcome Tile} → tile_at limit rules s at end ≡ o → Moved n (moved_tile n) o o' → StepMoved n (on_tile at go o) (on_tile (n + at) go' o')
  tile_on rules at go go' h e (given_on {a = skip b c}) =
      let r = h b c e in record { pads = ap suc r.pads; answer = r.answer }
  tile_on rules at go go' h e (given_on {a = hand i}) = record { pads = refl; answer = given_on }
  tile_on rules at go go' h e refused_on = record { pads = refl; answer = refused_on }

  pads_moved : (j : ℕ) (rules : Rules) (at : ℕ) → start ≤ at → at ≤ end → StepMoved n (skip_pads limit j rules s end at) (skip_pads limit j rules t (n + end) (n + at))
  unfolding skip_pads
  pads_moved zero rules at a b = record { pads = refl; answer = given_on }
  pads_moved (suc j) rules at a b =
      rw (less_moved n at end)
      (by_test (λ (x : Bool). StepMoved n (pick x (on_tile at (skip_pads limit j rules s end) (tile_at limit rules s at end)) (stop (gives (finish end)))) (pick x (on_tile (n + at) (skip_pads limit j rules t (n + end)) (tile_at limit rules t (n + at) (n + end))) (stop (gives (finish (n + end))))))
      (ltb at end)
      (λ l.
      tile_on rules at (skip_pads limit j rules s end) (skip_pads limit j rules t (n + end))
      (λ b' e q. let p = pad_ends limit rules s q in pads_moved j rules e (omega arith) p.2)
      refl (tile_moved rules at a (ltb-true at end l)))
      (λ _. record { pads = refl; answer = given_on }))
    where
      by_test : (P : Bool → Type 0) (x : Bool) → (x ≡ true → P true) → (x ≡ false → P false) → P x
      by_test P true h k = h refl
      by_test P false h k = k refl

  pub found_moved : out_of_range limit ≡ false → (rules : Rules) (at : ℕ) → start ≤ at → at ≤ end → StepMoved n (found limit rules s (cursor at end)) (found limit rules t (cursor (n + at) (n + end)))
  unfolding found
  found_moved g rules at a b =
      rw (g, inside s at end b k, inside t (n + at) (n + end) (omega arith) k', between n end at)
      (pads_moved (end - at) rules at a b)
