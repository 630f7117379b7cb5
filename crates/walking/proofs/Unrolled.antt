-- The walk of a part, one step at a time: what its first step answers, and what follows. With bytes enough their number makes no difference.
-- Assumes nothing.
use Prim.Native.Nat.{ℕ, zero, suc, ◌-◌, ◌≤◌, ◌<◌}
use native.Mathlib.Omega.{arith}
use mathlib.Core.Bool.{false}
use mathlib.Core.Path.{◌≡◌, refl, ◌∙◌, sym, ap}
use mathlib.Core.List.{List, ◌∷◌}
use lib.ListN.{length}
use lib.Dec.{eqb}
use Rattle.numbers.specs.Outcome.{Outcome, gives}
use Rattle.numbers.proofs.Outcomes.{pick_same}
use Rattle.framing.specs.Limits.{out_of_range}
use Rattle.framing.specs.Spans.{Spans}
use Rattle.stepping.specs.Items.{Item, marker, value, field}
use Rattle.stepping.specs.Answers.{answer_at}
use Rattle.stepping.specs.declared.cursor.Rules.{Rules}
use Rattle.stepping.proofs.Places.{ValueIn, a_marker, a_value, a_field}
use Rattle.stepping.proofs.Moves.{Moves, ends, hands, stops, moves, moves_end}
use Rattle.values.specs.Scalars.{is_container, body_rules}
use Rattle.walking.specs.Walk.{Visit, visit, Inside, behind, following, walk_of}

-- two ways to go on that agree on what lies behind `at` in the part that ends at hi
module _ (deepest : ℕ) (d at hi : ℕ) (rest : List Visit) (I I' : Inside) (O O' : ℕ → List Visit) (inside : (r : Rules) (d' e b : ℕ) (x : List Visit) → at < b → b ≤ e → e ≤ hi → I r d' e b x ≡ I' r d' e b x) (onward : (e : ℕ) → at < e → e ≤ hi → O e ≡ O' e) where
  behind_same : {v : Spans} → ValueIn at hi v → behind deepest d v I O ≡ behind deepest d v I' O'
  behind_same {v} i =
      let l : at < v.body = omega (arith, i.low, i.bodied) in
      let m : at < v.end = omega (arith, i.ended) in
      let o : O v.end ≡ O' v.end = onward v.end m i.within in
      pick_same (is_container v)
      (λ _.
      pick_same (eqb d deepest) (λ _. refl)
      (λ _. inside (body_rules v) (suc d) v.end v.body (O v.end) l i.ended i.within ∙ ap (I' (body_rules v) (suc d) v.end v.body) o))
      (λ _. o)

  pub following_same : {o : Outcome Item} → Moves at hi o → following deepest d rest I O o ≡ following deepest d rest I' O' o
  following_same ends = refl
  following_same (hands (a_marker {a} {x} {y} {e} l m)) = ap (λ (z : List Visit). visit d (gives (marker a x y e)) ∷ z) (onward e l m)
  following_same (hands (a_value {v} i)) = ap (λ (z : List Visit). visit d (gives (value v)) ∷ z) (behind_same i)
  following_same (hands (a_field {id} {a} {v} i)) = ap (λ (z : List Visit). visit d (gives (field id a v)) ∷ z) (behind_same i)
  following_same (stops n) = refl

module _ (limit deepest : ℕ) (s : List ℕ) where
  -- nothing of a part is left
  ended : (rules : Rules) (d at hi : ℕ) (rest : List Visit) (I : Inside) (O : ℕ → List Visit) → out_of_range limit ≡ false → at ≡ hi → hi ≤ length s → rest ≡ following deepest d rest I O (answer_at limit rules s at hi)
  ended rules d at hi rest I O g e k = rw (e, moves_end limit rules s hi k g)

  fuel : out_of_range limit ≡ false → (k k' : ℕ) (rules : Rules) (d hi at : ℕ) (rest : List Visit) → at ≤ hi → hi ≤ length s → hi - at ≤ k → hi - at ≤ k' → walk_of limit deepest k s rules d hi at rest ≡ walk_of limit deepest k' s rules d hi at rest
  unfolding walk_of
  fuel r zero zero rules d hi at rest l m f g = refl
  fuel r zero (suc k') rules d hi at rest l m f g = ended rules d at hi rest (walk_of limit deepest k' s) (λ e. walk_of limit deepest k' s rules d hi e rest) r (omega arith) m
  fuel r (suc k) zero rules d hi at rest l m f g = sym (ended rules d at hi rest (walk_of limit deepest k s) (λ e. walk_of limit deepest k s rules d hi e rest) r (omega arith) m)
  fuel r (suc k) (suc k') rules d hi at rest l m f g =
      following_same deepest d at hi rest (walk_of limit deepest k s) (walk_of limit deepest k' s) (λ e. walk_of limit deepest k s rules d hi e rest) (λ e. walk_of limit deepest k' s rules d hi e rest)
      (λ r' d' e b x p q t. fuel r k k' r' d' e b x q (omega arith) (omega arith) (omega arith))
      (λ e p q. fuel r k k' rules d hi e rest q m (omega arith) (omega arith))
      (moves limit rules s hi m at l)

  -- the walk of at..hi with as many bytes as these
  unfoldable pub full : Inside
  full rules d hi at rest = walk_of limit deepest (hi - at) s rules d hi at rest

  pub unrolled : out_of_range limit ≡ false → (rules : Rules) (d hi at : ℕ) (rest : List Visit) → at ≤ hi → hi ≤ length s → full rules d hi at rest ≡ following deepest d rest full (λ e. full rules d hi e rest) (answer_at limit rules s at hi)
  unfolding full walk_of
  unrolled r rules d hi at rest l m =
      fuel r (hi - at) (suc (hi - at)) rules d hi at rest l m (omega arith) (omega arith)
      ∙ following_same deepest d at hi rest (walk_of limit deepest (hi - at) s) full (λ e. walk_of limit deepest (hi - at) s rules d hi e rest) (λ e. full rules d hi e rest)
      (λ r' d' e b x p q t. fuel r (hi - at) (e - b) r' d' e b x q (omega arith) (omega arith) (omega arith))
      (λ e p q. fuel r (hi - at) (hi - e) rules d hi e rest q m (omega arith) (omega arith))
      (moves limit rules s hi m at l)
