-- The two stages are the lookup: a list that is found lies in the slice, and an empty one has no entry.
-- Assumes nothing.
use Prim.Native.Nat.{ℕ, ◌-◌, ◌≤◌}
use native.Mathlib.Omega.{arith}
use borrow.Author.Tests.{not-false}
use mathlib.Core.Path.{◌≡◌, refl, ap}
use mathlib.Core.Bool.{true, false, not}
use mathlib.Core.List.{List}
use lib.ListN.{length}
use lib.Dec.{ltb, eqb}
use Rattle.numbers.specs.Outcome.{gives}
use Rattle.numbers.proofs.Outcomes.{by_test, inside, Each, given, refused, each_refuse, each_within, each_then, each_if, each_map, then_same, pick_same}
use Rattle.framing.specs.Limits.{out_of_range}
use Rattle.framing.specs.Spans.{Spans}
use Rattle.stepping.specs.Items.{finish, marker, value, field}
use Rattle.stepping.specs.declared.cursor.Rules.TheVariants.{Stream, Sequence, Fields}
use Rattle.stepping.proofs.Moves.{moves_end}
use Rattle.symbols.specs.SystemTexts.{system_bytes, same_bytes}
use Rattle.symbols.specs.Turns.{meets}
use Rattle.symbols.specs.Text.{is_typed, Ruling, system_alone, table, on_stream, Own, no_list, listed, list_of, SymbolsField, on_field, own_list, unknown, on_entry, own_text, text_in, ruling_at, symbols_at, text_of, list_text}
use Rattle.symbols.specs.TextTheorems.{list_start, list_end, TwoStages, StepsEnough}
use Rattle.symbols.proofs.Answered.{Met, ValueMet, a_field}
use Rattle.symbols.proofs.Stepping.{EachTurn, each_over, each_further, EachItem, each_all, enough, steps_over}
use Rattle.symbols.proofs.Handlers.{stream_follows, field_follows, entry_follows}

pub record ListIn (s : List ℕ) (l : Own) : Type 0 where
  pub order : list_start l ≤ list_end l
  pub within : list_end l ≤ length s

none_in : (s : List ℕ) → ListIn s no_list
none_in s = record { order = omega arith; within = omega arith }

met_field : {s : List ℕ} {at end id a : ℕ} {v : Spans} → Met s at end (gives (field id a v)) → ValueMet s at end v
met_field (a_field _ m) = m

list_of_in : (s : List ℕ) {at end : ℕ} (v : Spans) → ValueMet s at end v → ListIn s (list_of v)
unfolding list_of
list_of_in s v m =
    by_test (ListIn s) (is_typed 11 v) (λ _. record { order = m.order; within = omega (arith, m.fits, m.within) }) (λ _. none_in s)

abbrev KeptIn : List ℕ → SymbolsField → Type 0
KeptIn s y = ListIn s y.list

fields_in : (s : List ℕ) (end : ℕ) → EachItem s end on_field (KeptIn s) (ListIn s)
unfolding on_field
fields_in s end at y (finish p) q m = each_over (given q)
fields_in s end at y (marker a x z e) q m = each_over (given q)
fields_in s end at y (value v) q m = each_over (given q)
fields_in s end at y (field id a v) q m =
    by_test (EachTurn (KeptIn s) (ListIn s)) (eqb id 6) (λ _. each_over refused) (λ _.
    by_test (EachTurn (KeptIn s) (ListIn s)) (eqb id 7)
    (λ _. by_test (EachTurn (KeptIn s) (ListIn s)) y.met (λ _. each_over refused) (λ _. each_further (list_of_in s v (met_field m))))
    (λ _. each_further q))

own_in : (limit : ℕ) (s : List ℕ) (r : Ruling) → Each (ListIn s) (own_list limit s r)
unfolding own_list
own_in limit s system_alone = given (none_in s)
own_in limit s (table b e) = each_all limit Fields s e on_field (KeptIn s) (ListIn s) (fields_in s e) b (record { met = false; list = no_list }) (none_in s)

-- what is known where a list was found
record Passed (limit : ℕ) (s lent : List ℕ) (l : Own) : Type 0 where
  pub lends : same_bytes lent system_bytes ≡ true
  pub ranged : out_of_range limit ≡ false
  pub list : ListIn s l

symbols_passed : (limit : ℕ) (s lent : List ℕ) (start end place : ℕ) → Each (Passed limit s lent) (symbols_at limit s lent start end place)
unfolding symbols_at
symbols_passed limit s lent start end place =
    each_refuse (not (same_bytes lent system_bytes)) 66 0 (λ h.
    each_refuse (out_of_range limit) 68 0 (λ g.
    each_within s start place (λ _ _.
    each_within s place end (λ _ _.
    each_then {P = λ _. Unit {0}} (each_if (ruling_at limit s start end place) (λ _ _. tt)) (λ r _.
    each_map (own_in limit s r) (λ l i. record { lends = not-false _ h; ranged = g; list = i }))))))

-- an empty list gives what no list gives
empty_unknown : (limit : ℕ) (s : List ℕ) (n : ℕ) → out_of_range limit ≡ false → own_text limit s n (listed 0 0) ≡ gives unknown
unfolding own_text on_entry
empty_unknown limit s n g =
    steps_over limit Sequence s 0 (on_entry s) (entry_follows s) 0 n (gives unknown) (ap (meets (on_entry s) n) (moves_end limit Sequence s 0 (omega arith) g))

placed : (limit : ℕ) (s : List ℕ) (id : ℕ) (l : Own) → out_of_range limit ≡ false → text_in limit s id (listed (list_start l) (list_end l)) ≡ text_in limit s id l
unfolding text_in own_text
placed limit s id no_list g = pick_same (ltb id 10) (λ _. refl) (λ _. empty_unknown limit s (id - 10) g)
placed limit s id (listed b e) g = refl

list-text : (limit : ℕ) (s lent : List ℕ) (id : ℕ) (l : Own) → Passed limit s lent l → list_text limit s lent (list_start l) (list_end l) id ≡ text_in limit s id l
unfolding list_text
list-text limit s lent id l p =
    rw (p.lends, p.ranged, inside s (list_start l) (list_end l) p.list.order p.list.within) (placed limit s id l p.ranged)

pub two_stages : TwoStages
unfolding text_of
two_stages limit s lent start end place id =
    then_same (symbols_passed limit s lent start end place) refl (λ l p. list-text limit s lent id l p)

pub steps_enough : StepsEnough
unfolding ruling_at own_list own_text
steps_enough limit s at end k h =
    record {
      stream = λ place. enough limit Stream s end (on_stream s place) (stream_follows s place) k at system_alone h;
      fields = enough limit Fields s end on_field field_follows k at (record { met = false; list = no_list }) h;
      entries = λ n. enough limit Sequence s end (on_entry s) (entry_follows s) k at n h;
    }
