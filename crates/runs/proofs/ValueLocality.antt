-- A value that a run hands out, framed afresh where its wrapper or its descriptor stands: the same on two maps that have the same header there; and its scalar
-- and part, where they have the same body.
-- Assumes nothing.
use Prim.Native.Nat.{ℕ, ◌+◌, ◌-◌, ◌≤◌, ◌<◌}
use native.Mathlib.Omega.{arith}
use borrow.Author.Tests.{ne_eqb, ltb-true}
use mathlib.Core.Path.{◌≡◌, refl, ◌∙◌, sym, ap, subst}
use mathlib.Core.Bool.{Bool, true, not, true≢false}
use mathlib.Core.Logic.{◌⊎◌, inl, inr, ⊎_elim}
use mathlib.Core.List.{List}
use lib.ListN.{length, get_or}
use lib.Dec.{ltb, eqb}
use Rattle.numbers.specs.Outcome.{Outcome, gives}
use Rattle.numbers.specs.Bytes.{Same}
use Rattle.numbers.specs.Answers.{Unsigned, var_uint}
use Rattle.numbers.proofs.Outcomes.{Each, given, refused, each_of, each_pick, each_refuse, by_test, refuse_gives, then_gives}
use Rattle.numbers.proofs.Parts.{part_same, part_none}
use Rattle.numbers.proofs.Meaning.{Bounded, var_uint_bounded}
use Rattle.framing.specs.Answers.{Frame, padding, valued, read_frame, read_value}
use Rattle.framing.specs.Spans.{Spans}
use Rattle.framing.specs.Format.{ValueBytes, plain, annotated}
use Rattle.framing.specs.Meaning.{Within}
use Rattle.framing.proofs.Soundness.{values-sound}
use Rattle.framing.proofs.Completeness.{values-complete}
use Rattle.framing.proofs.Bounds.{Ordered, read_value_each}
use Rattle.framing.proofs.Locality.{FrameIs, pad_is, value_is, frame_is}
use Rattle.stepping.specs.Items.{Item, marker, value, field}
use Rattle.stepping.specs.Answers.{Tile, hand, version_passes, marker_at, framed_at, as_tile, named_at, as_field, field_at, tile_at}
use Rattle.bodies.specs.Utf8.{utf8}
use Rattle.bodies.specs.Magnitude.{significant_from}
use Rattle.runs.specs.Reached.{ValueOf, a_value, a_field, item_start, EntryAt}
use Rattle.stepping.specs.declared.cursor.Rules.{Rules}
use Rattle.stepping.specs.declared.cursor.Rules.TheVariants.{Stream, Sequence, Fields}
use Rattle.values.specs.Scalars.{type_of, code_of, is_container, Scalar, container, bool_of, positive_of, negative_of, float_of, symbol_of, string_of, typed_of, scalar_of, span_of, part_of}
use Rattle.values.proofs.Reading.{InSlice}
use Rattle.bodies.proofs.Leading.{significant_begins, significant_local}
use Rattle.bodies.proofs.BigEndian.{uint_local}
use Rattle.bodies.proofs.Rows.{utf8_local}

-- ---- an item's value, framed where it starts

-- the value v stands at its own start, in the item that starts at p
pub record ValueStands (limit : ℕ) (s : List ℕ) (hi p : ℕ) (i : Item) (v : Spans) : Type 0 where
  pub read : read_value limit s v.start hi ≡ gives v
  pub starts : item_start i ≡ p
  pub low : p ≤ v.start

value_read : (limit : ℕ) (s : List ℕ) (p hi : ℕ) (v : Spans) → read_frame limit s p hi ≡ gives (valued v) → read_value limit s p hi ≡ gives v
value_read limit s p hi v q = go (valued v) refl (each_of (frame_is limit s p hi) q)
  where
    go : (f : Frame) → f ≡ valued v → FrameIs limit s p hi f → read_value limit s p hi ≡ gives v
    go f h (value_is {v = u} r) = let e : u ≡ v = cc in r ∙ ap gives e
    go f h (pad_is r) = absurd (let z : ◌≡◌ {A = ℕ} 0 1 = cc in omega arith)

at_start : (limit : ℕ) (s : List ℕ) (p hi : ℕ) (v : Spans) → read_value limit s p hi ≡ gives v → v.start ≡ p
at_start limit s p hi v q = (each_of (read_value_each limit s p hi) q).starts

stands_at : (limit : ℕ) (s : List ℕ) (p next hi : ℕ) (i : Item) (v : Spans) → item_start i ≡ p → p ≤ next → read_value limit s next hi ≡ gives v → ValueStands limit s hi p i v
stands_at limit s p next hi i v h l r =
    let q : v.start ≡ next = at_start limit s next hi v r in
    record { read = subst (λ (x : ℕ). read_value limit s x hi ≡ gives v) (sym q) r; starts = h; low = omega arith }

framed_stands : (limit : ℕ) (s : List ℕ) (p hi : ℕ) {i : Item} {v : Spans} → ValueOf i v → framed_at limit s p hi ≡ gives (hand i) → ValueStands limit s hi p i v
unfolding framed_at
framed_stands limit s p hi k q = let w = then_gives (read_frame limit s p hi) as_tile q in go w.0 w.1 k w.2
  where
    go : (f : Frame) → read_frame limit s p hi ≡ gives f → {i : Item} {v : Spans} → ValueOf i v → as_tile f ≡ gives (hand i) → ValueStands limit s hi p i v
    go (padding x) r k h = absurd (let z : ◌≡◌ {A = ℕ} 0 1 = cc in omega arith)
    go (valued u) r (a_value {v}) h =
        let e : u ≡ v = cc in
        let m : read_value limit s p hi ≡ gives v = value_read limit s p hi u r ∙ ap gives e in
        stands_at limit s p p hi (value v) v (at_start limit s p hi v m) (omega arith) m
    go (valued u) r (a_field {id} {a} {v}) h = absurd (let z : ◌≡◌ {A = ℕ} 0 1 = cc in omega arith)

field_stands : (limit : ℕ) (s : List ℕ) (p hi : ℕ) {i : Item} {v : Spans} → ValueOf i v → field_at limit s p hi ≡ gives (hand i) → ValueStands limit s hi p i v
unfolding field_at named_at
field_stands limit s p hi k q =
    let w = then_gives (var_uint s p hi) (named_at limit s p hi) q in
    let u : Unsigned = w.0 in
    let b : Bounded p hi u = each_of (var_uint_bounded s p hi) w.1 in
    let r = refuse_gives (eqb u.next hi) 7 hi w.2 in
    let g = then_gives (read_frame limit s u.next hi) (as_field u.value p) r.1 in
    go u.value u.next b.begins g.0 g.1 k g.2
  where
    go : (id next : ℕ) → p < next → (f : Frame) → read_frame limit s next hi ≡ gives f → {i : Item} {v : Spans} → ValueOf i v → as_field id p f ≡ gives (hand i) → ValueStands limit s hi p i v
    go id next l (padding x) r k h = absurd (let z : ◌≡◌ {A = ℕ} 0 1 = cc in omega arith)
    go id next l (valued u) r (a_value {v}) h = absurd (let z : ◌≡◌ {A = ℕ} 0 1 = cc in omega arith)
    go id next l (valued u) r (a_field {id = x} {a} {v}) h =
        let e : u ≡ v = cc in
        let c : a ≡ p = cc in
        stands_at limit s p next hi (field x a v) v c (omega arith) (value_read limit s next hi u r ∙ ap gives e)

-- no value stands where a marker does
marker_stands : (s : List ℕ) (p hi : ℕ) {i : Item} {v : Spans} → ValueOf i v → marker_at s p hi ≡ gives (hand i) → ⊥
unfolding marker_at
marker_stands s p hi {i} k q =
    let a = refuse_gives (ltb (hi - p) 4) 2 p q in
    let b = refuse_gives (not (eqb (get_or s (p + 3) 0) 234)) 21 p a.1 in
    let c = refuse_gives (not (version_passes (get_or s (p + 1) 0) (get_or s (p + 2) 0))) 60 p b.1 in
    no_value k (cc)
  where
    no_value : {j : Item} {u : Spans} → ValueOf j u → marker p (get_or s (p + 1) 0) (get_or s (p + 2) 0) (p + 4) ≡ j → ⊥
    no_value a_value e = let z : ◌≡◌ {A = ℕ} 0 1 = cc in omega arith
    no_value a_field e = let z : ◌≡◌ {A = ℕ} 0 1 = cc in omega arith

pub value_stands : (limit : ℕ) (rules : Rules) (s : List ℕ) (p hi : ℕ) {i : Item} {v : Spans} → ValueOf i v → tile_at limit rules s p hi ≡ gives (hand i) → ValueStands limit s hi p i v
unfolding tile_at
value_stands limit Stream s p hi {i} {v} k =
    by_test (λ (o : Outcome Tile). o ≡ gives (hand i) → ValueStands limit s hi p i v) (eqb (get_or s p 0) 224)
    (λ _ q. absurd (marker_stands s p hi k q)) (λ _ q. framed_stands limit s p hi k q)
value_stands limit Sequence s p hi k = λ q. framed_stands limit s p hi k q
value_stands limit Fields s p hi k = λ q. field_stands limit s p hi k q

-- ---- framed afresh at its wrapper or its descriptor

-- the same value, as an entry at `at` frames it: with or without its wrapper
pub record Afresh (limit : ℕ) (s : List ℕ) (hi at : ℕ) (v : Spans) : Type 0 where
  pub value : Spans
  pub read : read_value limit s at hi ≡ gives value
  pub byte : value.byte ≡ v.byte
  pub descriptor : value.descriptor ≡ v.descriptor
  pub body : value.body ≡ v.body
  pub end : value.end ≡ v.end
  pub low : v.start ≤ at
  -- what stands before its annotations is nothing, or stands before those of v
  pub wrapper : (value.annotations ≤ at) ⊎ (value.annotations ≤ v.annotations)

pub afresh : (limit : ℕ) (s : List ℕ) (hi at : ℕ) (v : Spans) → read_value limit s v.start hi ≡ gives v → EntryAt v at → Afresh limit s hi at v
afresh limit s hi at v r (inl e) =
    record { value = v; read = subst (λ (x : ℕ). read_value limit s x hi ≡ gives v) (sym e) r; byte = refl; descriptor = refl; body = refl; end = refl; low = omega arith; wrapper = inr (omega arith) }
afresh limit s hi at v r (inr e) = let b = values-sound limit s v.start hi v r in go b.0 b.1
  where
    o : Ordered v.start hi v
    o = each_of (read_value_each limit s v.start hi) r

    go : (b : ValueBytes s v.start hi v) → Within limit b → Afresh limit s hi at v
    go (plain t) l =
        let q : v.start ≡ at = sym (e ∙ t.descriptor) in
        record { value = v; read = subst (λ (x : ℕ). read_value limit s x hi ≡ gives v) q r; byte = refl; descriptor = refl; body = refl; end = refl; low = omega arith; wrapper = inr (omega arith) }
    go (annotated w) l =
        record {
          value = w.inner;
          read = subst (λ (x : ℕ). read_value limit s x hi ≡ gives w.inner) (sym e) (values-complete limit s v.descriptor hi w.inner (plain w.value) (omega (arith, l.3, w.body))).0;
          byte = sym w.byte;
          descriptor = w.value.descriptor;
          body = sym w.body;
          end = sym w.ends;
          low = omega (arith, o.annotated, o.described);
          wrapper = inl (omega (arith, w.value.annotations));
        }

-- ---- the same scalar where the bodies are the same

module _ (s t : List ℕ) (e : length s ≡ length t) (v : Spans) (same : Same s t v.body v.end) where
  pub scalar_local : scalar_of s v ≡ scalar_of t v
  unfolding scalar_of typed_of positive_of negative_of float_of symbol_of string_of
  scalar_local =
      rw (significant_local s t v.body v.end e same, uint_local s t v.body v.end e same, utf8_local s t v.body v.end e same)

-- where a reading's part lies: nowhere, or in the value's body
pub record PartIn (v : Spans) (x : Scalar) : Type 0 where
  pub place : ((span_of (gives x)).start ≡ (span_of (gives x)).end) ⊎ ((v.body ≤ (span_of (gives x)).start) × ((span_of (gives x)).end ≤ v.end))

module _ (s : List ℕ) (v : Spans) (i : InSlice s v) where
  nowhere : {x : Scalar} → (span_of (gives x)).start ≡ (span_of (gives x)).end → Each (PartIn v) (gives x)
  nowhere h = given (record { place = inl h })

  whole_body : {x : Scalar} → v.body ≤ (span_of (gives x)).start → (span_of (gives x)).end ≤ v.end → Each (PartIn v) (gives x)
  whole_body h k = given (record { place = inr (h, k) })

  low : v.body ≤ significant_from s v.body v.end
  low = (significant_begins s v.body v.end i.order i.within).low

  part_each : Each (PartIn v) (scalar_of s v)
  unfolding scalar_of typed_of bool_of positive_of negative_of float_of symbol_of string_of
  part_each =
      each_pick (eqb (code_of v) 15) (λ _. nowhere refl) (λ _.
      each_pick (eqb (type_of v) 1) (λ _. each_refuse (ltb 1 (code_of v)) 33 v.descriptor (λ _. nowhere refl)) (λ _.
      each_pick (eqb (type_of v) 2) (λ _. whole_body low (omega arith)) (λ _.
      each_pick (eqb (type_of v) 3) (λ _. each_refuse (eqb (significant_from s v.body v.end) v.end) 34 v.descriptor (λ _. whole_body low (omega arith))) (λ _.
      each_pick (eqb (type_of v) 4)
      (λ _.
      each_pick (eqb (v.end - v.body) 0) (λ _. nowhere refl) (λ _. each_pick (eqb (v.end - v.body) 4) (λ _. nowhere refl) (λ _. nowhere refl)))
      (λ _.
      each_pick (eqb (type_of v) 5) (λ _. whole_body (omega arith) (omega arith)) (λ _.
      each_pick (eqb (type_of v) 6) (λ _. whole_body (omega arith) (omega arith)) (λ _.
      each_pick (eqb (type_of v) 7) (λ _. each_refuse (ltb 8 (v.end - v.body)) 35 v.descriptor (λ _. nowhere refl)) (λ _.
      each_pick (eqb (type_of v) 8) (λ _. each_refuse (not (utf8 s v.body v.end)) 36 v.descriptor (λ _. whole_body (omega arith) (omega arith))) (λ _.
      each_pick (eqb (type_of v) 9) (λ _. whole_body (omega arith) (omega arith)) (λ _.
      each_pick (eqb (type_of v) 10) (λ _. whole_body (omega arith) (omega arith)) (λ _. nowhere refl)))))))))))

-- the bytes of a part in the body are the same
part_bytes : (s t : List ℕ) → length s ≡ length t → (v : Spans) → v.end ≤ length s → Same s t v.body v.end → {o : Outcome Scalar} → Each (PartIn v) o → part_of s o ≡ part_of t o
part_bytes s t e v k same (given {a = x} p) = ⊎_elim empty inside p.place
  where
    empty : (span_of (gives x)).start ≡ (span_of (gives x)).end → part_of s (gives x) ≡ part_of t (gives x)
    empty q = rw q (part_none s (span_of (gives x)).end ∙ sym (part_none t (span_of (gives x)).end))

    inside : (v.body ≤ (span_of (gives x)).start) × ((span_of (gives x)).end ≤ v.end) → part_of s (gives x) ≡ part_of t (gives x)
    inside q = part_same s t (span_of (gives x)).start (span_of (gives x)).end e (omega arith) (λ j a b. same j (omega arith) (omega arith))
part_bytes s t e v k same refused = part_none s 0 ∙ sym (part_none t 0)

pub scalar_part_local : (s t : List ℕ) → length s ≡ length t → (v : Spans) → InSlice s v → Same s t v.body v.end → part_of s (scalar_of s v) ≡ part_of t (scalar_of t v)
scalar_part_local s t e v i same =
    part_bytes s t e v i.within same (part_each s v i) ∙ ap (part_of t) (scalar_local s t e v same)

-- ---- a container is read as one, whatever is in it

pub container_read : (s : List ℕ) (v : Spans) → is_container v ≡ true → scalar_of s v ≡ gives container
unfolding is_container scalar_of typed_of
container_read s v =
    by_test (λ (b : Bool). b ≡ true → scalar_of s v ≡ gives container) (eqb (code_of v) 15)
    (λ _ h. absurd (true≢false (sym h)))
    (λ n h.
    let l : 10 < type_of v = ltb-true 10 (type_of v) h in
    rw
    (n, ne_eqb (type_of v) 1 (omega arith), ne_eqb (type_of v) 2 (omega arith), ne_eqb (type_of v) 3 (omega arith), ne_eqb (type_of v) 4 (omega arith), ne_eqb (type_of v) 5 (omega arith), ne_eqb (type_of v) 6 (omega arith), ne_eqb (type_of v) 7 (omega arith), ne_eqb (type_of v) 8 (omega arith), ne_eqb (type_of v) 9 (omega arith), ne_eqb (type_of v) 10 (omega arith)))
