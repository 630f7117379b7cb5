-- Where what a step finds lies: behind the pads that it skips, each of a byte at least, in what is left of the part; and a value's type is one of the document's.
-- Assumes nothing.
use Prim.Native.Nat.{ℕ, ◌+◌, ◌/◌, ◌≤◌, ◌<◌}
use native.Mathlib.Omega.{arith}
use mathlib.Core.Path.{◌≡◌, refl, sym, subst}
use mathlib.Core.List.{List, [], ◌∷◌}
use lib.ListN.{length}
use Rattle.numbers.specs.Outcome.{Outcome, gives, refuses}
use Rattle.framing.specs.Spans.{Spans}
use Rattle.framing.specs.Format.{ValueType, typed, null_null, TypedValue, ValueBytes, plain, annotated}
use Rattle.stepping.specs.Items.{Item, finish, marker, value, field, Pad}
use Rattle.stepping.specs.Read.{places_of}
use Rattle.stepping.specs.declared.cursor.Item.{Item as ItemEnum}
use Rattle.stepping.specs.Answers.{Found, found}
use Rattle.stepping.specs.Format.{NameBytes, in_stream, in_sequence, in_fields, ItemAt, marker-at, value_in_stream, value_in_sequence, field-at}
use Rattle.stepping.specs.Meaning.{Skips, arrived, passed, Stands, the_end, the_item, refused_there, no_part, no_limit}
use Rattle.stepping.specs.Runs.{cursor}
use Rattle.stepping.specs.declared.cursor.Rules.{Rules}
use Rattle.checking.specs.Private.Items.{start_of, ValueFits, Fits}
use Rattle.stepping.proofs.PadSkipping.{Skipping, at-end, at_pad, at_item, at_refusal, Finds, unranged, unfit, fit, finds}
use Rattle.stepping.proofs.Places.{ValueIn, ItemIn, a_marker as marker-in, a_value as value_in, a_field as field_in, pad_ends, item_in}
use Rattle.stepping.proofs.Soundness.{steps-sound}

-- where an item lies in at..hi; nothing is said of an end
abbrev pub Lies : ℕ → ℕ → Item → Type 0
Lies at hi (finish p) = Unit {0}
Lies at hi (marker a x y e) = (at < e) × (e ≤ hi)
Lies at hi (value v) = ValueIn at hi v
Lies at hi (field id a v) = ValueIn at hi v

in_lies : {at hi : ℕ} {x : Item} → ItemIn at hi x → Lies at hi x
in_lies (marker-in l m) = (l, m)
in_lies (value_in v) = v
in_lies (field_in v) = v

-- it lies in more
value_earlier : {at at' hi : ℕ} {v : Spans} → at ≤ at' → ValueIn at' hi v → ValueIn at hi v
value_earlier l v = record { low = omega (arith, v.low); bodied = v.bodied; ended = v.ended; within = v.within }

pub lies_earlier : (at at' hi : ℕ) (x : Item) → at ≤ at' → Lies at' hi x → Lies at hi x
lies_earlier at at' hi (finish p) l h = tt
lies_earlier at at' hi (marker a x y e) l h = (omega (arith, h.0), h.1)
lies_earlier at at' hi (value v) l h = value_earlier l h
lies_earlier at at' hi (field id a v) l h = value_earlier l h

-- behind its pads a step is in the part, and its item lies there
pub record Behind (at hi : ℕ) (f : Found) : Type 0 where
  pub inside : at + length f.pads ≤ hi
  pub lies : (x : Item) → f.answer ≡ gives x → Lies (at + length f.pads) hi x

stopped : {at hi n p : ℕ} → at ≤ hi → Behind at hi (record { pads = []; answer = refuses n p })
stopped l = record { inside = omega arith; lies = λ x q. absurd (let z : ◌≡◌ {A = ℕ} 0 1 = cc in omega arith) }

module _ (limit : ℕ) (rules : Rules) (s : List ℕ) (hi : ℕ) where
  skipping_behind : {at : ℕ} {f : Found} → at ≤ hi → Skipping limit rules s hi at f → Behind at hi f
  skipping_behind l at-end =
      record { inside = omega arith; lies = λ x q. let e : finish hi ≡ x = cc in subst (Lies (hi + 0) hi) e tt }
  skipping_behind l (at_pad {at} {b} {e} {f} m h w) =
      let p = pad_ends limit rules s h in
      let r = skipping_behind p.2 w in
      record { inside = omega (arith, r.inside); lies = λ x q. lies_earlier (at + length (record { start = at; body = b; end = e } ∷ f.pads)) (e + length f.pads) hi x (omega arith) (r.lies x q) }
  skipping_behind l (at_item {at} {i} m h) =
      record {
        inside = omega arith;
        lies = λ x q. let e : i ≡ x = cc in lies_earlier (at + 0) at hi x (omega arith) (subst (Lies at hi) e (in_lies (item_in limit rules s h)));
      }
  skipping_behind l (at_refusal m h) = stopped l

  pub found_behind : (at : ℕ) → at ≤ hi → Behind at hi (found limit rules s (cursor at hi))
  found_behind at l = go (finds limit rules s (cursor at hi))
    where
      go : {f : Found} → Finds limit rules s (cursor at hi) f → Behind at hi f
      go (unranged g) = stopped l
      go (unfit g h) = stopped l
      go (fit g m k w) = skipping_behind l w

-- ---- what a step finds, where it begins

named_on : {s : List ℕ} {hi : ℕ} {rules : Rules} {a n : ℕ} → NameBytes s hi rules a n → a ≤ n
named_on in_stream = omega arith
named_on in_sequence = omega arith
named_on (in_fields m) = omega (arith, m.begins)

skips_past : {rules : Rules} {s : List ℕ} {hi a z : ℕ} {ps : List Pad} → Skips rules s hi a ps z → a + length ps ≤ z
skips_past arrived = omega arith
skips_past (passed t w k) = omega (arith, skips_past k, named_on t.name, t.bytes.low, t.bytes.order)

coded : {type code : ℕ} → ValueType type code → type ≤ 13
coded (typed l m) = m
coded null_null = omega arith

value_typed : {s : List ℕ} {at end : ℕ} {v : Spans} → TypedValue s at end v → v.byte / 16 ≤ 13
value_typed {s} {at} t = subst (λ (b : ℕ). b / 16 ≤ 13) (sym t.byte) (coded t.type)

-- it begins at z or later, and lies in the rest of the part
abbrev pub Met : List ℕ → ℕ → ℕ → Outcome Item → Type 0
Met s z hi (gives x) = (z ≤ start_of x) × Fits s (start_of x) hi (gives x)
Met s z hi (refuses n p) = Unit {0}

bytes_met : {s : List ℕ} {at hi : ℕ} {v : Spans} → ValueBytes s at hi v → (at ≤ v.start) × ValueFits s v.start hi v
bytes_met (plain t) = (
  omega (arith, t.start),
  (omega (arith, t.start, t.descriptor), t.fits, record { bodied = omega (arith, t.low, t.descriptor); ended = t.order; within = omega (arith, t.fits, t.within); typed = value_typed t }),
)
bytes_met (annotated w) =
    let i = w.value in (
      omega (arith, w.start),
      (
        omega (arith, w.start, w.low, w.count.begins, w.some),
        omega (arith, i.fits, w.ends),
        record {
          bodied = omega (arith, i.low, w.body);
          ended = omega (arith, i.order, w.body, w.ends);
          within = omega (arith, i.fits, i.within, w.ends);
          typed = subst (λ (b : ℕ). b / 16 ≤ 13) (sym w.byte) (value_typed i);
        },
      ),
    )

item_met : {s : List ℕ} {hi z : ℕ} {rules : Rules} {x : Item} (at : ℕ) → at ≤ z → ItemAt s hi rules z x → Met s at hi (gives x)
item_met at l (marker-at _ _ _ _ fits _) = (l, (omega arith, fits))
item_met at l (value_in_stream b) = let m = bytes_met b in (omega (arith, m.0), m.1)
item_met at l (value_in_sequence b) = let m = bytes_met b in (omega (arith, m.0), m.1)
item_met at l (field-at id b) = let m = bytes_met b in (l, (omega (arith, id.begins, m.0, m.1.0), m.1.1, m.1.2))

stands_met : {limit : ℕ} {rules : Rules} {s : List ℕ} {hi z : ℕ} {o : Outcome Item} (at : ℕ) → at ≤ z → Stands limit rules s hi z o → Met s at hi o
stands_met {hi = hi} at l (the_end q) = (omega (arith, q), refl)
stands_met at l (the_item t w) = item_met at l t
stands_met at l (refused_there p q r) = tt
stands_met at l (no_part q) = tt
stands_met at l (no_limit q) = tt

module _ (limit : ℕ) (rules : Rules) (s : List ℕ) (at hi : ℕ) where
  found_met : let f = found limit rules s (cursor at hi) in Met s (at + length f.pads) hi f.answer
  found_met = let w = steps-sound limit rules s (cursor at hi) in stands_met (at + length (found limit rules s (cursor at hi)).pads) (skips_past w.1) w.2

  -- of what was read, as the tactics are to have it
  module _ (x : ItemEnum) (e : (found limit rules s (cursor at hi)).answer ≡ gives (places_of x)) where
    met : Met s (at + length (found limit rules s (cursor at hi)).pads) hi (gives (places_of x))
    met = subst (Met s (at + length (found limit rules s (cursor at hi)).pads) hi) e found_met

    pub found_start : at + length (found limit rules s (cursor at hi)).pads ≤ start_of (places_of x)
    found_start = met.0

    pub found_fits : Fits s (start_of (places_of x)) hi (gives (places_of x))
    found_fits = met.1

pub ruleset found_in = (found_start, found_fits)

-- an item of the document is no end
abbrev pub NoEnd : Item → Type 0
NoEnd (finish p) = ⊥
NoEnd (marker a x y e) = Unit {0}
NoEnd (value v) = Unit {0}
NoEnd (field id a v) = Unit {0}

pub no_end : {s : List ℕ} {hi z : ℕ} {rules : Rules} {x : Item} → ItemAt s hi rules z x → NoEnd x
no_end (marker-at a b c d e f) = tt
no_end (value_in_stream b) = tt
no_end (value_in_sequence b) = tt
no_end (field-at id b) = tt
