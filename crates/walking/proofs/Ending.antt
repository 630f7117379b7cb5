-- A walk has an answer for each byte at most, and the last: an item has a byte at least before its body and before what comes behind it.
-- Assumes nothing.
use Prim.Native.Nat.{ℕ, zero, suc, ◌+◌, ◌-◌, ◌≤◌, ◌<◌}
use native.Mathlib.Omega.{arith}
use mathlib.Core.List.{List, [], ◌∷◌}
use lib.ListN.{length}
use lib.Dec.{eqb}
use Rattle.numbers.specs.Outcome.{Outcome, gives}
use Rattle.numbers.proofs.Outcomes.{by_test}
use Rattle.framing.specs.Spans.{Spans}
use Rattle.stepping.specs.Items.{Item, finish}
use Rattle.stepping.specs.declared.cursor.Rules.{Rules}
use Rattle.stepping.specs.declared.cursor.Rules.TheVariants.{Stream}
use Rattle.stepping.proofs.Places.{ValueIn, a_marker, a_value, a_field}
use Rattle.stepping.proofs.Moves.{Moves, ends, hands, stops, moves}
use Rattle.values.specs.Scalars.{is_container, body_rules}
use Rattle.walking.specs.Walk.{limits_out, Visit, visit, Inside, behind, following, walk_of, whole_walk}
use Rattle.walking.specs.Theorems.{LengthBound}

-- one answer at least, and at most n more than `rest` has
abbrev Few : ℕ → List Visit → List Visit → Type 0
Few n rest xs = (1 ≤ length xs) × (length xs ≤ n + length rest)

-- a walk of a part that ends at or before `most` has few answers
abbrev Bounded : ℕ → ℕ → Inside → Type 0
Bounded low most I = (rules : Rules) (d hi at : ℕ) (rest : List Visit) → low < at → at ≤ hi → hi ≤ most → 1 ≤ length rest → Few (hi - at) rest (I rules d hi at rest)

module _ (deepest : ℕ) (rules : Rules) (d hi at : ℕ) (rest : List Visit) (I : Inside) (r : 1 ≤ length rest) (few : Bounded at hi I) where
  past_value : (v : Spans) → ValueIn at hi v → Few (hi - at - 1) rest (behind deepest d v I (λ e. I rules d hi e rest))
  past_value v i =
      let l : at < v.end = omega (arith, i.low, i.bodied, i.ended) in
      let o : Few (hi - v.end) rest (I rules d hi v.end rest) = few rules d hi v.end rest l i.within (omega arith) r in
      by_test (Few (hi - at - 1) rest) (is_container v)
      (λ _.
      by_test (Few (hi - at - 1) rest) (eqb d deepest) (λ _. (omega arith, omega arith))
      (λ _.
      let m : at < v.body = omega (arith, i.low, i.bodied) in
      let b : Few (v.end - v.body) (I rules d hi v.end rest) (I (body_rules v) (suc d) v.end v.body (I rules d hi v.end rest))
      = few (body_rules v) (suc d) v.end v.body (I rules d hi v.end rest) m i.ended i.within o.0 in
      (b.0, omega (arith, i.low, i.bodied, i.ended, i.within))))
      (λ _. (o.0, omega (arith, i.low, i.bodied, i.ended, i.within)))

  few_following : {o : Outcome Item} → Moves at hi o → Few (hi - at) rest (following deepest d rest I (λ e. I rules d hi e rest) o)
  few_following ends = (r, omega arith)
  few_following (hands (a_marker {e = e} p q)) = let o = few rules d hi e rest p q (omega arith) r in (omega arith, omega arith)
  few_following (hands (a_value {v} i)) =
      let b = past_value v i in (omega arith, omega (arith, i.low, i.bodied, i.ended, i.within))
  few_following (hands (a_field {v = v} i)) =
      let b = past_value v i in (omega arith, omega (arith, i.low, i.bodied, i.ended, i.within))
  few_following (stops x) = (omega arith, omega arith)

few : (limit deepest : ℕ) (s : List ℕ) (k : ℕ) (rules : Rules) (d hi at : ℕ) (rest : List Visit) → at ≤ hi → hi ≤ length s → 1 ≤ length rest → Few (hi - at) rest (walk_of limit deepest k s rules d hi at rest)
unfolding walk_of
few limit deepest s zero rules d hi at rest l m r = (r, omega arith)
few limit deepest s (suc k) rules d hi at rest l m r =
    few_following deepest rules d hi at rest (walk_of limit deepest k s) r
    (λ rules' d' hi' at' rest' p q t u. few limit deepest s k rules' d' hi' at' rest' q (omega arith) u)
    (moves limit rules s hi m at l)

pub length_bound : LengthBound
unfolding whole_walk
length_bound limit deepest s =
    let f = few limit deepest s (length s) Stream 0 (length s) 0 (visit 0 (gives (finish (length s))) ∷ []) (omega arith) (omega arith) (omega arith) in
    by_test (λ (xs : List Visit). length xs ≤ suc (length s)) (limits_out limit deepest) (λ _. omega arith) (λ _. omega (arith, f.1))
