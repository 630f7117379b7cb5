-- What is made of an item of the stream, of a table's field and of a list's entry leads to the item's end, if anywhere.
-- Assumes nothing.
use Prim.Native.Nat.{ℕ, ◌+◌, ◌-◌, ◌<◌}
use native.Mathlib.Omega.{arith}
use borrow.Author.Tests.{ne_eqb}
use mathlib.Core.Path.{◌≡◌, refl, ◌∙◌, sym, ap}
use mathlib.Core.Bool.{Bool}
use mathlib.Core.List.{List}
use lib.Dec.{ltb, eqb}
use Rattle.numbers.specs.Outcome.{Outcome, gives, refuses}
use Rattle.numbers.proofs.Outcomes.{by_test, by_case}
use Rattle.framing.specs.Read.{spans_of}
use Rattle.framing.specs.Spans.{Spans}
use Rattle.framing.specs.declared.encoded_value.EncodedValue.{EncodedValue}
use Rattle.stepping.specs.Items.{Item, finish, marker, value, field}
use Rattle.stepping.specs.Answers.{answer_at}
use Rattle.stepping.specs.declared.cursor.Rules.TheVariants.{Stream, Sequence, Fields}
use Rattle.symbols.specs.Turns.{Turn, over, further, turned, meets, step_all}
use Rattle.symbols.specs.Text.{is_table, Ruling, system_alone, tabled, towards, on_stream, SymbolsField, on_field, on_entry}
use Rattle.symbols.specs.Private.Turned.{at_place}
use Rattle.symbols.proofs.Stepping.{Leads, stops, goes, Follows, one_step}

tabled_leads : (v : Spans) (r : Ruling) (o : Outcome Bool) → Leads (value v) (tabled v r o)
tabled_leads v r (gives t) = goes refl
tabled_leads v r (refuses n p) = stops

pub stream_follows : (s : List ℕ) (place : ℕ) → Follows (on_stream s place)
unfolding on_stream
stream_follows s place r (finish p) = by_test (Leads (finish p)) (eqb p place) (λ _. stops) (λ _. stops)
stream_follows s place r (marker a x y e) =
    by_test (Leads (marker a x y e)) (eqb a place) (λ _. stops) (λ _. by_test (Leads (marker a x y e)) (ltb place e) (λ _. stops) (λ _. goes refl))
stream_follows s place r (value v) =
    by_test (Leads (value v)) (eqb v.start place) (λ _. stops) (λ _.
    by_test (Leads (value v)) (ltb place v.end) (λ _. stops) (λ _. tabled_leads v r (is_table s v)))
stream_follows s place r (field id a v) = stops

pub field_follows : Follows on_field
unfolding on_field
field_follows y (finish p) = stops
field_follows y (marker a x z e) = stops
field_follows y (value v) = stops
field_follows y (field id a v) =
    by_test (Leads (field id a v)) (eqb id 6) (λ _. stops) (λ _.
    by_test (Leads (field id a v)) (eqb id 7) (λ _. by_test (Leads (field id a v)) y.met (λ _. stops) (λ _. goes refl)) (λ _. goes refl))

pub entry_follows : (s : List ℕ) → Follows (on_entry s)
unfolding on_entry
entry_follows s n (finish p) = stops
entry_follows s n (marker a x y e) = stops
entry_follows s n (value v) = by_test (Leads (value v)) (eqb n 0) (λ _. stops) (λ _. goes refl)
entry_follows s n (field id a v) = stops

-- one step, on the stream, in a table and in a list
module _ (limit : ℕ) (s : List ℕ) (at end : ℕ) where
  pub stream_step : (place : ℕ) (r : Ruling) → step_all limit Stream s (on_stream s place) at end r ≡ turned (λ e q. step_all limit Stream s (on_stream s place) e end q) (meets (on_stream s place) r (answer_at limit Stream s at end))
  stream_step place r = one_step limit Stream s end (on_stream s place) (stream_follows s place) at r

  pub field_step : (y : SymbolsField) → step_all limit Fields s on_field at end y ≡ turned (λ e z. step_all limit Fields s on_field e end z) (meets on_field y (answer_at limit Fields s at end))
  field_step y = one_step limit Fields s end on_field field_follows at y

  pub entry_step : (n : ℕ) → step_all limit Sequence s (on_entry s) at end n ≡ turned (λ e k. step_all limit Sequence s (on_entry s) e end k) (meets (on_entry s) n (answer_at limit Sequence s at end))
  entry_step n = one_step limit Sequence s end (on_entry s) (entry_follows s) at n

  -- one more entry is passed
  pub entry_passed : (count k : ℕ) (v : EncodedValue) → k < count → answer_at limit Sequence s at end ≡ gives (value (spans_of v)) → step_all limit Sequence s (on_entry s) v.end end (count - (k + 1)) ≡ step_all limit Sequence s (on_entry s) at end (count - k)
  unfolding on_entry
  entry_passed count k v h e =
      let n : count - k - 1 ≡ count - (k + 1) = omega arith in
      sym (entry_step (count - k) ∙ rw (e, ne_eqb (count - k) 0 (omega arith), n))

-- an item that stands around the place is refused
around : (place a e : ℕ) (r : Ruling) (met : Turn Ruling Ruling) (n p : ℕ) → at_place place a e ≡ refuses n p → towards place a e r met ≡ over (refuses n p)
unfolding at_place
around place a e r met n p h =
    by_case (eqb a place) (λ t. let q = rw t at h in cc) (λ t.
    by_case (ltb place e) (λ u. let q = rw (t, u) at h in rw (t, u) (ap (λ (o : Outcome Ruling). over o) cc)) (λ u. let q = rw (t, u) at h in cc))

module _ (limit : ℕ) (s : List ℕ) (at end place : ℕ) (r : Ruling) where
  on : Turn Ruling Ruling → Outcome Ruling
  on = turned (λ e q. step_all limit Stream s (on_stream s place) e end q)

  pub marker_around : (a x y e n p : ℕ) → answer_at limit Stream s at end ≡ gives (marker a x y e) → at_place place a e ≡ refuses n p → step_all limit Stream s (on_stream s place) at end r ≡ refuses n p
  unfolding on_stream on
  marker_around a x y e n p h q =
      stream_step limit s at end place r
      ∙ ap (λ (o : Outcome Item). on (meets (on_stream s place) r o)) h
      ∙ ap on (around place a e r (further e system_alone) n p q)

  pub value_around : (v : EncodedValue) (n p : ℕ) → answer_at limit Stream s at end ≡ gives (value (spans_of v)) → at_place place v.start v.end ≡ refuses n p → step_all limit Stream s (on_stream s place) at end r ≡ refuses n p
  unfolding on_stream on
  value_around v n p h q =
      stream_step limit s at end place r
      ∙ ap (λ (o : Outcome Item). on (meets (on_stream s place) r o)) h
      ∙ ap on (around place v.start v.end r (tabled (spans_of v) r (is_table s (spans_of v))) n p q)
