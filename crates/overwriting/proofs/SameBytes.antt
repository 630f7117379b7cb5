-- On two maps of one length that have the same bytes in a symbol table, its list is the same and lies in it; and on two with the same bytes in a list, so is an
-- entry's text.
-- Assumes nothing.
use Prim.Native.Nat.{ℕ, ◌≤◌}
use native.Mathlib.Omega.{arith}
use mathlib.Core.Path.{◌≡◌, refl, ap}
use mathlib.Core.Bool.{false, not}
use mathlib.Core.List.{List}
use lib.ListN.{length}
use lib.Dec.{eqb}
use Rattle.numbers.specs.Outcome.{gives}
use Rattle.numbers.specs.Bytes.{Same}
use Rattle.numbers.proofs.Outcomes.{by_test, Each, given, refused, each_refuse, each_pick}
use Rattle.bodies.proofs.Rows.{utf8_local}
use Rattle.bodies.specs.Utf8.{utf8}
use Rattle.framing.specs.Spans.{Spans}
use Rattle.stepping.specs.Items.{Item, finish, marker, value, field}
use Rattle.stepping.specs.Answers.{Found, step_of, answer_at}
use Rattle.stepping.specs.Runs.{cursor}
use Rattle.stepping.specs.declared.cursor.Rules.{Rules}
use Rattle.stepping.specs.declared.cursor.Rules.TheVariants.{Sequence, Fields}
use Rattle.symbols.specs.Text.{is_typed, Own, no_list, listed, list_of, SymbolsField, on_field, own_list, table, Text, unknown, own, system, entry_text, on_entry, own_text}
use Rattle.symbols.proofs.Answered.{Met, ValueMet, a_value, a_field, met}
use Rattle.runs.proofs.Nest as nest
use Rattle.runs.proofs.Nest.{stay}
use Rattle.runs.proofs.Standing.{Standing, order, one}
use Rattle.runs.proofs.TileLocality.{tile_local}
use Rattle.runs.proofs.SameTiles.{cursor_over}
use Rattle.overwriting.proofs.SameSteps.{Alike, both_over, both_further, alike_pick, alike_over, all_same}

-- a list, or none, in the bytes b..e
pub data ListIn (b e : ℕ) : Own → Type 0 where
  without : ListIn b e no_list
  listed_in : {x y : ℕ} → b ≤ x → y ≤ e → ListIn b e (listed x y)

-- a text, if it is one of the map, in the bytes b..e
pub data TextIn (b e : ℕ) : Text → Type 0 where
  nowhere : TextIn b e unknown
  of_system : {x y : ℕ} → TextIn b e (system x y)
  own_in : {x y : ℕ} → b ≤ x → y ≤ e → TextIn b e (own x y)

module _ (limit : ℕ) (s s' : List ℕ) (long : length s ≡ length s') (b e : ℕ) (same : Same s s' b e) where
  answer_same : (rules : Rules) (at : ℕ) → b ≤ at → answer_at limit rules s at e ≡ answer_at limit rules s' at e
  unfolding step_of
  answer_same rules at l =
      ap (λ (f : Found). f.answer)
      (cursor_over limit s s' long rules at e (λ p g h. tile_local limit s s' long rules p e h (λ i m n. same i (omega (arith, nest.ahead (Standing limit s) (order limit s) (one limit s) g)) n))
      (cursor at e) refl stay)

  -- ---- a table's list

  met_field : {at id a : ℕ} {v : Spans} → Met s at e (gives (field id a v)) → ValueMet s at e v
  met_field (a_field _ m) = m

  list_of_in : (at : ℕ) (v : Spans) → b ≤ at → ValueMet s at e v → ListIn b e (list_of v)
  unfolding list_of
  list_of_in at v l m =
      by_test (ListIn b e) (is_typed 11 v) (λ _. listed_in (omega (arith, m.starts, m.header)) m.fits) (λ _. without)

  abbrev KeptIn : SymbolsField → Type 0
  KeptIn y = ListIn b e y.list

  on-field : (at : ℕ) (y : SymbolsField) (i : Item) → b ≤ at → KeptIn y → Met s at e (gives i) → Alike (λ n. b ≤ n) KeptIn (ListIn b e) (on_field y i) (on_field y i)
  unfolding on_field
  on-field at y (finish p) l q m = both_over (given q)
  on-field at y (marker a x z n) l q m = both_over (given q)
  on-field at y (value v) l q m = both_over (given q)
  on-field at y (field id a v) l q m =
      let w = met_field m in
      let next : b ≤ v.end = omega (arith, w.starts, w.header, w.order) in
      alike_pick (eqb id 6) (λ _. both_over refused) (λ _.
      alike_pick (eqb id 7)
      (λ _. alike_pick y.met (λ _. both_over refused) (λ _. both_further next (list_of_in at v l w)))
      (λ _. both_further next q))

  item_met : (rules : Rules) (at : ℕ) (i : Item) → answer_at limit rules s at e ≡ gives i → Met s at e (gives i)
  item_met rules at i q = rw q at (met limit rules s at e)

  pub list_same : (own_list limit s (table b e) ≡ own_list limit s' (table b e)) × Each (ListIn b e) (own_list limit s (table b e))
  unfolding own_list
  list_same =
      all_same limit Fields s s' e on_field on_field (λ n. b ≤ n) KeptIn (ListIn b e) (answer_same Fields)
      (λ at y i l q h. on-field at y i l q (item_met Fields at i h)) b (record { met = false; list = no_list }) (omega arith) without

  -- ---- a list's entry

  met_value : {at : ℕ} {v : Spans} → Met s at e (gives (value v)) → ValueMet s at e v
  met_value (a_value m) = m

  entry_same : (at : ℕ) (v : Spans) → b ≤ at → ValueMet s at e v → (entry_text s v ≡ entry_text s' v) × Each (TextIn b e) (entry_text s v)
  unfolding entry_text
  entry_same at v l m =
      let low : b ≤ v.body = omega (arith, m.starts, m.header) in (
        rw (utf8_local s s' v.body v.end long (λ i x y. same i (omega arith) (omega (arith, m.fits)))),
        each_pick (is_typed 8 v) (λ _. each_refuse (not (utf8 s v.body v.end)) 36 v.descriptor (λ _. given (own_in low m.fits))) (λ _. given nowhere),
      )

  on-entry : (at n : ℕ) (i : Item) → b ≤ at → Met s at e (gives i) → Alike (λ n. b ≤ n) (λ n. Unit {0}) (TextIn b e) (on_entry s n i) (on_entry s' n i)
  unfolding on_entry
  on-entry at n (finish p) l m = both_over (given nowhere)
  on-entry at n (marker a x z y) l m = both_over (given nowhere)
  on-entry at n (value v) l m =
      let w = met_value m in
      let t = entry_same at v l w in
      alike_pick (eqb n 0) (λ _. alike_over t.0 t.1) (λ _. both_further (omega (arith, w.starts, w.header, w.order)) tt)
  on-entry at n (field id a v) l m = both_over (given nowhere)

  pub text_same : (n : ℕ) → (own_text limit s n (listed b e) ≡ own_text limit s' n (listed b e)) × Each (TextIn b e) (own_text limit s n (listed b e))
  unfolding own_text
  text_same n =
      all_same limit Sequence s s' e (on_entry s) (on_entry s') (λ n. b ≤ n) (λ n. Unit {0}) (TextIn b e) (answer_same Sequence)
      (λ at n i l _ h. on-entry at n i l (item_met Sequence at i h)) b n (omega arith) tt
