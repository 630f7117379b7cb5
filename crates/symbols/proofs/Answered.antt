-- Where what a step answers lies: the end is the part's end, an item begins at the step's position or behind it, has a byte at least and ends in the part. Of a
-- position or a part outside the slice a step hands nothing out, so nothing is asked of either.
-- Assumes nothing.
use Prim.Native.Nat.{ℕ, ◌+◌, ◌-◌, ◌≤◌, ◌<◌}
use native.Mathlib.Omega.{arith}
use mathlib.Core.Path.{◌≡◌, refl, subst}
use mathlib.Core.Bool.{Bool, true, false, true≢false}
use mathlib.Core.List.{List}
use lib.ListN.{length}
use Rattle.numbers.specs.Outcome.{Outcome, gives, refuses}
use Rattle.framing.specs.Read.{spans_of}
use Rattle.framing.specs.Spans.{Spans}
use Rattle.framing.specs.declared.encoded_value.EncodedValue.{EncodedValue}
use Rattle.framing.specs.Format.{ValueBytes, plain, annotated}
use Rattle.stepping.specs.Items.{Item, finish, marker, value, field, item_end, Pad}
use Rattle.stepping.specs.Answers.{step_of, answer_at}
use Rattle.stepping.specs.Leaving.{is_last}
use Rattle.stepping.specs.Runs.{cursor}
use Rattle.stepping.specs.Format.{NameBytes, in_stream, in_sequence, in_fields, ItemAt, marker-at, value_in_stream, value_in_sequence, field-at}
use Rattle.stepping.specs.Meaning.{Skips, arrived, passed, Stands, the_end, the_item, refused_there, no_part, no_limit}
use Rattle.stepping.specs.declared.cursor.Rules.{Rules}
use Rattle.stepping.specs.declared.cursor.Rules.TheVariants.{Stream, Sequence, Fields}
use Rattle.stepping.proofs.Soundness.{steps-sound}

pub record ValueMet (s : List ℕ) (at hi : ℕ) (v : Spans) : Type 0 where
  pub starts : at ≤ v.start
  pub header : v.start < v.body
  pub order : v.body ≤ v.end
  pub fits : v.end ≤ hi
  pub within : hi ≤ length s

pub data Met (s : List ℕ) (at hi : ℕ) : Outcome Item → Type 0 where
  ended : at ≤ hi → Met s at hi (gives (finish hi))
  a_marker : {a x y e : ℕ} → at ≤ a → a < e → e ≤ hi → Met s at hi (gives (marker a x y e))
  a_value : {v : Spans} → ValueMet s at hi v → Met s at hi (gives (value v))
  a_field : {id a : ℕ} {v : Spans} → at ≤ a → ValueMet s at hi v → Met s at hi (gives (field id a v))
  refused : {n p : ℕ} → Met s at hi (refuses n p)

named_on : {s : List ℕ} {hi : ℕ} {rules : Rules} {a n : ℕ} → NameBytes s hi rules a n → a ≤ n
named_on in_stream = omega arith
named_on in_sequence = omega arith
named_on (in_fields m) = omega (arith, m.begins)

skips_on : {rules : Rules} {s : List ℕ} {hi a z : ℕ} {ps : List Pad} → Skips rules s hi a ps z → a ≤ z
skips_on arrived = omega arith
skips_on (passed t w k) = let h = skips_on k in omega (arith, named_on t.name, t.bytes.low, t.bytes.order)

bytes_met : {s : List ℕ} {a hi : ℕ} {v : Spans} (at : ℕ) → at ≤ a → ValueBytes s a hi v → ValueMet s at hi v
bytes_met at l (plain t) =
    record { starts = omega (arith, t.start); header = omega (arith, t.start, t.low); order = t.order; fits = t.fits; within = t.within }
bytes_met at l (annotated w) =
    let i = w.value in
    record {
      starts = omega (arith, w.start);
      header = omega (arith, w.start, w.low, w.count.begins, w.some, i.low, w.body);
      order = omega (arith, i.order, w.body, w.ends);
      fits = omega (arith, i.fits, w.ends);
      within = i.within;
    }

item_met : {s : List ℕ} {hi : ℕ} {rules : Rules} {a : ℕ} {i : Item} (at : ℕ) → at ≤ a → ItemAt s hi rules a i → Met s at hi (gives i)
item_met at l (marker-at {a} _ _ _ _ fits _) = a_marker {e = a + 4} l (omega arith) fits
item_met at l (value_in_stream b) = a_value (bytes_met at l b)
item_met at l (value_in_sequence b) = a_value (bytes_met at l b)
item_met at l (field-at n b) = a_field l (bytes_met at (omega (arith, n.begins)) b)

stands_met : {limit : ℕ} {rules : Rules} {s : List ℕ} {hi z : ℕ} {o : Outcome Item} (at : ℕ) → at ≤ z → Stands limit rules s hi z o → Met s at hi o
stands_met at l (the_end e) = ended (omega arith)
stands_met at l (the_item t _) = item_met at l t
stands_met at l (refused_there _ _ _) = refused
stands_met at l (no_part _) = refused
stands_met at l (no_limit _) = refused

pub met : (limit : ℕ) (rules : Rules) (s : List ℕ) (at hi : ℕ) → Met s at hi (answer_at limit rules s at hi)
unfolding step_of
met limit rules s at hi = let w = steps-sound limit rules s (cursor at hi) in stands_met at (skips_on w.1) w.2

-- an item that is handed out ends behind the step's position, and not behind the part's end
moves_on : {s : List ℕ} {at hi : ℕ} {i : Item} → Met s at hi (gives i) → is_last (gives i) ≡ false → (at < item_end i) × (item_end i ≤ hi)
moves_on (ended _) h = absurd (true≢false h)
moves_on (a_marker l m n) _ = (omega arith, n)
moves_on (a_value v) _ = (omega (arith, v.starts, v.header, v.order), v.fits)
moves_on (a_field _ v) _ = (omega (arith, v.starts, v.header, v.order), v.fits)

pub moved_on : (limit : ℕ) (rules : Rules) (s : List ℕ) (at hi : ℕ) {i : Item} → answer_at limit rules s at hi ≡ gives i → is_last (gives i) ≡ false → (at < item_end i) × (item_end i ≤ hi)
moved_on limit rules s at hi q = moves_on (subst (Met s at hi) q (met limit rules s at hi))

-- less of the part is left behind it
module _ (limit : ℕ) (rules : Rules) (s : List ℕ) (at hi : ℕ) where
  pub marker_less : {a x y e : ℕ} → answer_at limit rules s at hi ≡ gives (marker a x y e) → hi - e < hi - at
  marker_less q = omega (arith, moved_on limit rules s at hi q refl)

  pub value_less : {v : EncodedValue} → answer_at limit rules s at hi ≡ gives (value (spans_of v)) → hi - v.end < hi - at
  value_less q = omega (arith, moved_on limit rules s at hi q refl)

  pub field_less : {id a : ℕ} {v : EncodedValue} → answer_at limit rules s at hi ≡ gives (field id a (spans_of v)) → hi - v.end < hi - at
  field_less q = omega (arith, moved_on limit rules s at hi q refl)

-- what a step hands out by the rules of its part
abbrev pub is_handed : Outcome Item → Rules → Bool
is_handed (gives (finish p)) rules = true
is_handed (gives (marker a x y e)) Stream = true
is_handed (gives (marker a x y e)) Sequence = false
is_handed (gives (marker a x y e)) Fields = false
is_handed (gives (value v)) Stream = true
is_handed (gives (value v)) Sequence = true
is_handed (gives (value v)) Fields = false
is_handed (gives (field id a v)) Stream = false
is_handed (gives (field id a v)) Sequence = false
is_handed (gives (field id a v)) Fields = true
is_handed (refuses n p) rules = true

item_handed : {s : List ℕ} {hi : ℕ} {rules : Rules} {a : ℕ} {i : Item} → ItemAt s hi rules a i → is_handed (gives i) rules ≡ true
item_handed (marker-at _ _ _ _ _ _) = refl
item_handed (value_in_stream b) = refl
item_handed (value_in_sequence b) = refl
item_handed (field-at n b) = refl

stands_handed : {limit : ℕ} {rules : Rules} {s : List ℕ} {hi z : ℕ} {o : Outcome Item} → Stands limit rules s hi z o → is_handed o rules ≡ true
stands_handed (the_end _) = refl
stands_handed (the_item t _) = item_handed t
stands_handed (refused_there _ _ _) = refl
stands_handed (no_part _) = refl
stands_handed (no_limit _) = refl

pub is-handed : (limit : ℕ) (rules : Rules) (s : List ℕ) (at hi : ℕ) → is_handed (answer_at limit rules s at hi) rules ≡ true
unfolding step_of
is-handed limit rules s at hi = stands_handed (steps-sound limit rules s (cursor at hi)).2
