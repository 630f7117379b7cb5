-- What stands at a position is, by its bytes, a pad or an item of the part's rules, within the limits.
-- Assumes nothing.
use Prim.Native.Nat.{ℕ, ◌+◌, ◌-◌, ◌≤◌, ◌<◌}
use native.Mathlib.Omega.{arith}
use borrow.Author.Tests.{ltb-false, eqb-true, not-false}
use mathlib.Core.Path.{◌≡◌, refl, sym, subst}
use mathlib.Core.Bool.{true, not, true≢false}
use mathlib.Core.List.{List}
use lib.ListN.{length, get_or}
use lib.Dec.{ltb, eqb}
use Rattle.numbers.specs.Format.{var_uint_of, NumberAt}
use Rattle.numbers.specs.Outcome.{gives}
use Rattle.numbers.specs.Bytes.{part}
use Rattle.numbers.specs.Answers.{Unsigned, unsigned}
use Rattle.numbers.proofs.Outcomes.{by_test, Each, given, each_refuse, each_pick, each_then, each_of}
use Rattle.numbers.proofs.Meaning.{ReadAt, var_uint_each}
use Rattle.framing.specs.Answers.{Frame}
use Rattle.framing.specs.Spans.{Spans}
use Rattle.framing.specs.Format.{ValueBytes}
use Rattle.framing.specs.Meaning.{Within}
use Rattle.framing.proofs.Locality.{FrameIs, pad_is, value_is, frame_is}
use Rattle.framing.proofs.Soundness.{values-sound, pads-sound}
use Rattle.stepping.specs.Items.{Item, value, field}
use Rattle.stepping.specs.Answers.{Tile, skip, hand, version_passes, marker_at, framed_at, as_tile, named_at, as_field, field_at, tile_at}
use Rattle.stepping.specs.Format.{NameBytes, in_stream, in_sequence, in_fields, PadAt, ItemAt, marker-at, value_in_stream, value_in_sequence, field-at}
use Rattle.stepping.specs.Meaning.{PadWithin, ItemWithin}
use Rattle.stepping.specs.declared.cursor.Rules.{Rules}
use Rattle.stepping.specs.declared.cursor.Rules.TheVariants.{Stream, Sequence, Fields}

pub data TileAt (limit : ℕ) (rules : Rules) (s : List ℕ) (at hi : ℕ) : Tile → Type 0 where
  a_pad : {b e : ℕ} (t : PadAt rules s hi (record { start = at; body = b; end = e })) → PadWithin t → TileAt limit rules s at hi (skip b e)
  an_item : {i : Item} (t : ItemAt s hi rules at i) → ItemWithin limit t → TileAt limit rules s at hi (hand i)

-- what passes is version 1.0
passing_version : (major minor : ℕ) → version_passes major minor ≡ true → (major ≡ 1) × (minor ≡ 0)
passing_version major minor =
    by_test (λ t. t ≡ true → (major ≡ 1) × (minor ≡ 0)) (eqb major 1) (λ h e. (eqb-true major 1 h, eqb-true minor 0 e)) (λ h e. absurd (true≢false (sym e)))

marker_sound : (limit : ℕ) (s : List ℕ) (at hi : ℕ) → at < hi → hi ≤ length s → get_or s at 0 ≡ 224 → Each (TileAt limit Stream s at hi) (marker_at s at hi)
unfolding marker_at
marker_sound limit s at hi h k e =
    each_refuse (ltb (hi - at) 4) 2 at (λ l.
    each_refuse (not (eqb (get_or s (at + 3) 0) 234)) 21 at (λ m.
    each_refuse (not (version_passes (get_or s (at + 1) 0) (get_or s (at + 2) 0))) 60 at (λ v.
    let p = passing_version (get_or s (at + 1) 0) (get_or s (at + 2) 0) (not-false _ v) in
    given
    (rw (p.0, p.1)
    (an_item (marker-at e p.0 p.1 (eqb-true (get_or s (at + 3) 0) 234 (not-false _ m)) (omega (arith, ltb-false (hi - at) 4 l)) k) tt)))))

-- a frame where no field ID stands before it
module _ (limit : ℕ) (rules : Rules) (s : List ℕ) (at hi : ℕ) (name : NameBytes s hi rules at at) (item : (v : Spans) (b : ValueBytes s at hi v) → Within limit b → TileAt limit rules s at hi (hand (value v))) where
  framed_sound : Each (TileAt limit rules s at hi) (framed_at limit s at hi)
  unfolding framed_at
  framed_sound = each_then (frame_is limit s at hi) (λ f i. tile f i)
    where
      tile : (f : Frame) → FrameIs limit s at hi f → Each (TileAt limit rules s at hi) (as_tile f)
      tile f (pad_is {p} r) =
          let w = pads-sound s at hi p r in
          given (a_pad (record { after = at; name = name; bytes = w.0 }) (omega arith, w.1))
      tile f (value_is {v} r) = let w = values-sound limit s at hi v r in given (item v w.0 w.1)

field_sound : (limit : ℕ) (s : List ℕ) (at hi : ℕ) → Each (TileAt limit Fields s at hi) (field_at limit s at hi)
unfolding field_at named_at
field_sound limit s at hi =
    each_then (var_uint_each s at hi) (λ u r.
    each_refuse (eqb u.next hi) 7 hi (λ _. each_then (frame_is limit s u.next hi) (λ f i. tile u r f i)))
  where
    next_is : (u : Unsigned) → ReadAt (unsigned s at) s at hi u → NumberAt s at hi u.next × (u.next ≤ at + 9) × (u.value ≡ var_uint_of (part s at u.next))
    next_is u r =
        subst (λ (x : Unsigned). NumberAt s at hi x.next × (x.next ≤ at + 9) × (x.value ≡ var_uint_of (part s at x.next))) (sym r.is) (r.number, r.short, refl)

    tile : (u : Unsigned) → ReadAt (unsigned s at) s at hi u → (f : Frame) → FrameIs limit s u.next hi f → Each (TileAt limit Fields s at hi) (as_field u.value at f)
    tile u r f (pad_is {p} q) =
        let w = pads-sound s u.next hi p q in
        let n = next_is u r in
        given (a_pad (record { after = u.next; name = in_fields n.0; bytes = w.0 }) (n.1, w.1))
    tile u r f (value_is {v} q) =
        let w = values-sound limit s u.next hi v q in
        let n = next_is u r in
        given (subst (λ (x : ℕ). TileAt limit Fields s at hi (hand (field x at v))) (sym n.2) (an_item (field-at n.0 w.0) (n.1, w.1)))

pub tile_sound : (limit : ℕ) (rules : Rules) (s : List ℕ) (at hi : ℕ) → at < hi → hi ≤ length s → Each (TileAt limit rules s at hi) (tile_at limit rules s at hi)
unfolding tile_at
tile_sound limit Stream s at hi h k =
    each_pick (eqb (get_or s at 0) 224) (λ e. marker_sound limit s at hi h k (eqb-true (get_or s at 0) 224 e))
    (λ _. framed_sound limit Stream s at hi in_stream (λ v b l. an_item (value_in_stream b) l))
tile_sound limit Sequence s at hi h k = framed_sound limit Sequence s at hi in_sequence (λ v b l. an_item (value_in_sequence b) l)
tile_sound limit Fields s at hi h k = field_sound limit s at hi

-- a pad at `at` with this body and this end, within the limits
abbrev pub PadThere : Rules → List ℕ → ℕ → ℕ → ℕ → ℕ → Type 0
PadThere rules s hi at b e = (t : PadAt rules s hi (record { start = at; body = b; end = e })) × PadWithin t

abbrev pub ItemThere : ℕ → Rules → List ℕ → ℕ → ℕ → Item → Type 0
ItemThere limit rules s hi at i = (t : ItemAt s hi rules at i) × ItemWithin limit t

pad_of : (limit : ℕ) {rules : Rules} {s : List ℕ} {at hi b e : ℕ} → TileAt limit rules s at hi (skip b e) → PadThere rules s hi at b e
pad_of limit (a_pad t l) = (t, l)

item_of : (limit : ℕ) {rules : Rules} {s : List ℕ} {at hi : ℕ} {i : Item} → TileAt limit rules s at hi (hand i) → ItemThere limit rules s hi at i
item_of limit (an_item t l) = (t, l)

pub pad-at : (limit : ℕ) (rules : Rules) (s : List ℕ) {at hi b e : ℕ} → at < hi → hi ≤ length s → tile_at limit rules s at hi ≡ gives (skip b e) → PadThere rules s hi at b e
pad-at limit rules s {at} {hi} h k q = pad_of limit (each_of (tile_sound limit rules s at hi h k) q)

pub item-at : (limit : ℕ) (rules : Rules) (s : List ℕ) {at hi : ℕ} {i : Item} → at < hi → hi ≤ length s → tile_at limit rules s at hi ≡ gives (hand i) → ItemThere limit rules s hi at i
item-at limit rules s {at} {hi} h k q = item_of limit (each_of (tile_sound limit rules s at hi h k) q)
