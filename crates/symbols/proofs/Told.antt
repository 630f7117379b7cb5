-- Where the text of an ID lies, and what it is: by what is made of the list's entries, and by the nine texts.
-- Assumes nothing.
use Prim.Native.Nat.{ℕ, suc, ◌-◌, ◌≤◌, ◌<◌}
use native.Mathlib.Omega.{arith}
use borrow.Author.Tests.{ltb-true, ltb-false, eqb-false, not-false}
use mathlib.Core.Path.{◌≡◌, sym, subst}
use mathlib.Core.Bool.{not}
use mathlib.Core.List.{List}
use lib.ListN.{length}
use lib.Dec.{ltb, eqb}
use Rattle.numbers.specs.Outcome.{gives}
use Rattle.numbers.proofs.Outcomes.{by_test, Each, given, each_refuse, each_pick, each_then, each_of, each_if}
use Rattle.framing.specs.Spans.{Spans}
use Rattle.bodies.specs.Utf8.{utf8}
use Rattle.stepping.specs.Items.{finish, marker, value, field}
use Rattle.stepping.specs.declared.cursor.Rules.TheVariants.{Sequence}
use Rattle.symbols.specs.SystemTexts.{system_bytes, text_start, same_bytes}
use Rattle.symbols.specs.Text.{is_typed, own, system, system_text, Own, no_list, listed, entry_text, on_entry, own_text, text_in, symbols_at, text_of}
use Rattle.symbols.specs.TextTheorems.{TextTold, nowhere, in_map, in_system, TextsTold}
use Rattle.symbols.proofs.Answered.{Met, ValueMet, a_value}
use Rattle.symbols.proofs.Stepping.{EachTurn, each_over, each_further, EachItem, each_all}
use Rattle.symbols.proofs.SystemBytes.{same_bytes_lem, start_order, start_within, system_part}

module _ (s lent : List ℕ) (id : ℕ) where
  entry_told : {at end : ℕ} (v : Spans) → 10 ≤ id → ValueMet s at end v → Each (TextTold s lent id) (entry_text s v)
  unfolding entry_text
  entry_told v h m =
      each_pick (is_typed 8 v)
      (λ _. each_refuse (not (utf8 s v.body v.end)) 36 v.descriptor (λ u. given (in_map h m.order (omega (arith, m.fits, m.within)) (not-false _ u))))
      (λ _. given nowhere)

  met_value : {at end : ℕ} {v : Spans} → Met s at end (gives (value v)) → ValueMet s at end v
  met_value (a_value m) = m

  entries_told : (end : ℕ) → 10 ≤ id → EachItem s end (on_entry s) (λ n. Unit {0}) (TextTold s lent id)
  unfolding on_entry
  entries_told end h at n (finish p) _ m = each_over (given nowhere)
  entries_told end h at n (marker a x y e) _ m = each_over (given nowhere)
  entries_told end h at n (value v) _ m =
      by_test (EachTurn (λ n. Unit {0}) (TextTold s lent id)) (eqb n 0) (λ _. each_over (entry_told v h (met_value m))) (λ _. each_further tt)
  entries_told end h at n (field i a v) _ m = each_over (given nowhere)

  own_told : (limit n : ℕ) (list : Own) → 10 ≤ id → Each (TextTold s lent id) (own_text limit s n list)
  unfolding own_text
  own_told limit n no_list h = given nowhere
  own_told limit n (listed b e) h = each_all limit Sequence s e (on_entry s) (λ n. Unit {0}) (TextTold s lent id) (entries_told e h) b n tt

  nine_told : (k : ℕ) → id ≡ suc k → k < 9 → lent ≡ system_bytes → TextTold s lent id (system (text_start k) (text_start (suc k)))
  nine_told k e h q =
      let d : id - 1 ≡ k = omega arith in
      in_system (omega arith) (omega arith) (start_order k) (rw q (start_within (suc k))) (rw (q, d) (system_part k h))

  system_told : id < 10 → lent ≡ system_bytes → TextTold s lent id (system_text id)
  unfolding system_text
  system_told h q =
      by_test (TextTold s lent id) (eqb id 0) (λ _. nowhere) (λ e.
      let k : id ≡ suc (id - 1) = omega (arith, eqb-false id 0 e) in
      subst (λ (n : ℕ). TextTold s lent id (system (text_start (id - 1)) (text_start n))) (sym k) (nine_told (id - 1) k (omega arith) q))

  pub text_in_told : (limit : ℕ) (list : Own) → lent ≡ system_bytes → Each (TextTold s lent id) (text_in limit s id list)
  unfolding text_in
  text_in_told limit list q =
      each_pick (ltb id 10) (λ h. given (system_told (ltb-true id 10 h) q)) (λ h. own_told limit (id - 10) list (ltb-false id 10 h))

-- where a list is found, the lent text is the nine
symbols_lent : (limit : ℕ) (s lent : List ℕ) (start end place : ℕ) → Each (λ _. lent ≡ system_bytes) (symbols_at limit s lent start end place)
unfolding symbols_at
symbols_lent limit s lent start end place =
    each_refuse (not (same_bytes lent system_bytes)) 66 0 (λ h. each_if _ (λ _ _. same_bytes_lem lent system_bytes (not-false _ h)))

pub text_each : (limit : ℕ) (s lent : List ℕ) (start end place id : ℕ) → Each (TextTold s lent id) (text_of limit s lent start end place id)
unfolding text_of
text_each limit s lent start end place id =
    each_then (symbols_lent limit s lent start end place) (λ l q. text_in_told s lent id limit l q)

pub texts_told : TextsTold
texts_told limit s lent start end place id t q = each_of (text_each limit s lent start end place id) q

-- and so it is a part of its slice
module _ (limit : ℕ) (s lent : List ℕ) (start end place id a b : ℕ) where
  own_part : TextTold s lent id (own a b) → (a ≤ b) × (b ≤ length s)
  own_part (in_map _ l m _) = (l, m)

  system_part_of : TextTold s lent id (system a b) → (a ≤ b) × (b ≤ length lent)
  system_part_of (in_system _ _ l m _) = (l, m)

  pub own_order : text_of limit s lent start end place id ≡ gives (own a b) → a ≤ b
  own_order q = (own_part (texts_told limit s lent start end place id (own a b) q)).0

  pub own_within : text_of limit s lent start end place id ≡ gives (own a b) → b ≤ length s
  own_within q = (own_part (texts_told limit s lent start end place id (own a b) q)).1

  pub system_order : text_of limit s lent start end place id ≡ gives (system a b) → a ≤ b
  system_order q = (system_part_of (texts_told limit s lent start end place id (system a b) q)).0

  pub system_within : text_of limit s lent start end place id ≡ gives (system a b) → b ≤ length lent
  system_within q = (system_part_of (texts_told limit s lent start end place id (system a b) q)).1

pub ruleset parts_told = (own_order, own_within, system_order, system_within)
