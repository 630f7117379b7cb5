-- What a step on a part of the slice answers: an item that lies in what is left of the part and has a byte at least, the part's end, or a refusal that is not
-- 50.
-- Assumes nothing.
use Prim.Native.Nat.{ℕ, ◌-◌, ◌≤◌, ◌<◌}
use native.Mathlib.Omega.{arith}
use mathlib.Core.Bool.{true, false}
use mathlib.Core.Path.{◌≡◌, subst}
use mathlib.Core.List.{List}
use lib.ListN.{length}
use Rattle.numbers.specs.Outcome.{Outcome, gives, refuses}
use Rattle.numbers.proofs.Outcomes.{Proper, other, inside, by_case}
use Rattle.framing.specs.Limits.{out_of_range}
use Rattle.framing.specs.Spans.{Spans}
use Rattle.stepping.specs.Items.{Item, finish}
use Rattle.stepping.specs.Answers.{skip_pads, Found, found, step_of}
use Rattle.stepping.specs.Runs.{cursor}
use Rattle.stepping.specs.declared.cursor.Rules.{Rules}
use Rattle.stepping.proofs.Places.{ValueIn, ItemIn, a_marker, a_value, a_field, pad_ends, item_in, tile_proper}
use Rattle.stepping.proofs.PadSkipping.{Skipping, at-end, at_pad, at_item, at_refusal, skipping, of_skipping}

pub data Moves (at hi : ℕ) : Outcome Item → Type 0 where
  ends : Moves at hi (gives (finish hi))
  hands : {i : Item} → ItemIn at hi i → Moves at hi (gives i)
  stops : {n p : ℕ} → (n ≡ 50 → ⊥) → Moves at hi (refuses n p)

-- what lies in what is left lies in more
value_earlier : {at at' hi : ℕ} {v : Spans} → at ≤ at' → ValueIn at' hi v → ValueIn at hi v
value_earlier l v = record { low = omega (arith, v.low); bodied = v.bodied; ended = v.ended; within = v.within }

earlier : {at at' hi : ℕ} {o : Outcome Item} → at ≤ at' → Moves at' hi o → Moves at hi o
earlier l ends = ends
earlier {at} l (hands (a_marker {e = e} p q)) = let r : at < e = omega arith in hands (a_marker r q)
earlier l (hands (a_value v)) = hands (a_value (value_earlier l v))
earlier l (hands (a_field v)) = hands (a_field (value_earlier l v))
earlier l (stops d) = stops d

not_outside : {A : Type 0} {n p : ℕ} → Proper {A = A} (refuses n p) → n ≡ 50 → ⊥
not_outside (other d) = d

module _ (limit : ℕ) (rules : Rules) (s : List ℕ) (hi : ℕ) (k : hi ≤ length s) where
  skipping_moves : {at : ℕ} {f : Found} → Skipping limit rules s hi at f → Moves at hi f.answer
  skipping_moves at-end = ends
  skipping_moves (at_pad l h w) = let p = pad_ends limit rules s h in earlier (omega arith) (skipping_moves w)
  skipping_moves (at_item l h) = hands (item_in limit rules s h)
  skipping_moves (at_refusal {at} l h) = stops (not_outside (subst Proper h (tile_proper limit rules s at hi (omega arith) k)))

  moves_unranged : (at : ℕ) → out_of_range limit ≡ true → Moves at hi (step_of limit rules s (cursor at hi)).answer
  unfolding step_of found
  moves_unranged at g = rw g (stops (λ (e : ◌≡◌ {A = ℕ} 68 50). omega arith))

  pub moves : (at : ℕ) → at ≤ hi → Moves at hi (step_of limit rules s (cursor at hi)).answer
  unfolding step_of
  moves at l =
      let w = skipping limit rules s hi (hi - at) at l (omega arith) in
      by_case (out_of_range limit) (λ g. moves_unranged at g) (λ g.
      subst (λ (f : Found). Moves at hi f.answer) (of_skipping limit rules s hi g l k w) (skipping_moves w))

  -- at the part's end it is the end
  pub moves_end : out_of_range limit ≡ false → (step_of limit rules s (cursor hi hi)).answer ≡ gives (finish hi)
  unfolding step_of found skip_pads
  moves_end g =
      let z : hi - hi ≡ 0 = omega arith in
      rw (g, inside s hi hi (omega arith) k, z)
