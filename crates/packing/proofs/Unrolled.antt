-- A part's tree, one step at a time: with bytes enough their number makes no difference.
-- Assumes nothing.
use Prim.Native.Nat.{ℕ, zero, suc, ◌-◌, ◌≤◌, ◌<◌}
use native.Mathlib.Omega.{arith}
use mathlib.Core.Path.{◌≡◌, refl, ◌∙◌, sym, ap}
use mathlib.Core.Bool.{true, false}
use mathlib.Core.List.{List, [], ◌∷◌, ◌++◌}
use lib.ListN.{length}
use Rattle.numbers.specs.Outcome.{Outcome, gives, refuses, outside_of}
use Rattle.numbers.specs.Bytes.{part}
use Rattle.numbers.proofs.Parts.{part_none}
use Rattle.numbers.proofs.Outcomes.{by_case, inside_order, inside_end}
use Rattle.framing.specs.Limits.{out_of_range}
use Rattle.framing.specs.Spans.{Spans}
use Rattle.stepping.specs.Items.{Item, finish, marker, value, field}
use Rattle.stepping.specs.Answers.{Found, stop, found, step_of, answer_at}
use Rattle.stepping.specs.Runs.{cursor}
use Rattle.stepping.specs.declared.cursor.Rules.{Rules}
use Rattle.stepping.specs.declared.cursor.Rules.TheVariants.{Stream}
use Rattle.values.specs.Scalars.{is_container, body_rules}
use Rattle.packing.specs.Tree.{Tree, nothing, mark, bytes_of}
use Rattle.packing.specs.Packed.{node_of, tree_on, tree_in, tree_of, packed}
use Rattle.packing.specs.Private.Bytes.{tree_at, bytes_at, body_bytes, value_bytes}
use Rattle.packing.proofs.ReadBack.{over}
use Rattle.packing.proofs.Twice.{unranged}
use Rattle.packing.proofs.Places.{HandedOut, Lies, answer_lies}

-- two ways to go on that agree on what lies behind `at` in the part that ends at hi
module _ (limit : ℕ) (s : List ℕ) (at hi : ℕ) (P P' : Rules → ℕ → ℕ → Tree) (O O' : ℕ → Tree) (within : (r : Rules) (e b : ℕ) → at < b → b ≤ e → e ≤ hi → P r e b ≡ P' r e b) (onward : (e : ℕ) → at < e → e ≤ hi → O e ≡ O' e) where
  node_same : (name : List ℕ) (v : Spans) {from : ℕ} → HandedOut limit s at hi from v → node_of s name v (P (body_rules v) v.end v.body) (O v.end) ≡ node_of s name v (P' (body_rules v) v.end v.body) (O' v.end)
  node_same name v h =
      ap (λ (t : Tree). node_of s name v t (O v.end)) (within (body_rules v) v.end v.body (omega (arith, h.low, h.named, h.started, h.annotated, h.bodied)) h.ended h.within)
      ∙ ap (node_of s name v (P' (body_rules v) v.end v.body)) (onward v.end (omega (arith, h.low, h.named, h.started, h.annotated, h.bodied, h.ended)) h.within)

  on_same : (o : Outcome Item) → ((x : Item) → o ≡ gives x → Lies limit s at hi x) → tree_on s P O o ≡ tree_on s P' O' o
  on_same (gives (finish p)) h = refl
  on_same (gives (marker a x y e)) h = let l = h (marker a x y e) refl in ap (mark x y) (onward e (omega (arith, l.0)) l.1)
  on_same (gives (value v)) h = node_same [] v (h (value v) refl)
  on_same (gives (field id a v)) h = node_same (part s a v.start) v (h (field id a v) refl)
  on_same (refuses n p) h = refl

module _ (limit : ℕ) (s : List ℕ) where
  nowhere_found : (rules : Rules) (at hi : ℕ) → out_of_range limit ≡ false → outside_of s at hi ≡ true → found limit rules s (cursor at hi) ≡ stop (refuses 50 0)
  unfolding found
  nowhere_found rules at hi g o = rw (g, o)

  nowhere : (rules : Rules) (at hi : ℕ) → out_of_range limit ≡ false → outside_of s at hi ≡ true → answer_at limit rules s at hi ≡ refuses 50 0
  unfolding step_of
  nowhere rules at hi g o = ap (λ (f : Found). f.answer) (nowhere_found rules at hi g o)

  -- from a part's end on, and where there is no part, nothing is met
  ended : (rules : Rules) (at hi : ℕ) (P : Rules → ℕ → ℕ → Tree) (O : ℕ → Tree) → hi ≤ at → nothing ≡ tree_on s P O (answer_at limit rules s at hi)
  ended rules at hi P O e =
      by_case (out_of_range limit) (λ g. ap (tree_on s P O) (sym (unranged limit s rules hi at g)))
      (λ g. by_case (outside_of s at hi) (λ o. ap (tree_on s P O) (sym (nowhere rules at hi g o)))
      (λ o. ap (tree_on s P O) (sym (over limit s g rules at hi (let z : at ≡ hi = omega (arith, inside_order s at hi o) in z) (inside_end s at hi o)))))

  fuel : (k k' : ℕ) (rules : Rules) (hi at : ℕ) → hi - at ≤ k → hi - at ≤ k' → tree_in limit k s rules hi at ≡ tree_in limit k' s rules hi at
  unfolding tree_in
  fuel zero zero rules hi at f g = refl
  fuel zero (suc k') rules hi at f g = ended rules at hi (tree_in limit k' s) (tree_in limit k' s rules hi) (omega arith)
  fuel (suc k) zero rules hi at f g = sym (ended rules at hi (tree_in limit k s) (tree_in limit k s rules hi) (omega arith))
  fuel (suc k) (suc k') rules hi at f g =
      on_same limit s at hi (tree_in limit k s) (tree_in limit k' s) (tree_in limit k s rules hi) (tree_in limit k' s rules hi)
      (λ r e b p q t. fuel k k' r e b (omega arith) (omega arith))
      (λ e p q. fuel k k' rules hi e (omega arith) (omega arith))
      (answer_at limit rules s at hi) (answer_lies limit rules s at hi)

  pub unrolled : (rules : Rules) (hi at : ℕ) → tree_at limit s rules hi at ≡ tree_on s (tree_at limit s) (tree_at limit s rules hi) (answer_at limit rules s at hi)
  unfolding tree_at tree_in
  unrolled rules hi at =
      fuel (hi - at) (suc (hi - at)) rules hi at (omega arith) (omega arith)
      ∙ on_same limit s at hi (tree_in limit (hi - at) s) (tree_at limit s) (tree_in limit (hi - at) s rules hi) (tree_at limit s rules hi)
      (λ r e b p q t. fuel (hi - at) (e - b) r e b (omega arith) (omega arith))
      (λ e p q. fuel (hi - at) (hi - e) rules hi e (omega arith) (omega arith))
      (answer_at limit rules s at hi) (answer_lies limit rules s at hi)

  -- in bytes: a value, and what comes behind it
  pub node_bytes : (from : ℕ) (v : Spans) (rest : Tree) → bytes_of (node_of s (part s from v.start) v (tree_at limit s (body_rules v) v.end v.body) rest) ≡ value_bytes limit s from v ++ bytes_of rest
  unfolding node_of bytes_of value_bytes body_bytes bytes_at
  node_bytes from v rest = by_case (is_container v) (λ c. rw c) (λ c. rw c)

  -- what a step answers, and what is left behind it, in bytes
  abbrev answer_bytes : Rules → ℕ → Outcome Item → List ℕ
  answer_bytes rules hi (gives (finish p)) = []
  answer_bytes rules hi (gives (marker a x y e)) = 224 ∷ x ∷ y ∷ 234 ∷ bytes_at limit s rules hi e
  answer_bytes rules hi (gives (value v)) = value_bytes limit s v.start v ++ bytes_at limit s rules hi v.end
  answer_bytes rules hi (gives (field id a v)) = value_bytes limit s a v ++ bytes_at limit s rules hi v.end
  answer_bytes rules hi (refuses n p) = []

  on_bytes : (rules : Rules) (hi : ℕ) (o : Outcome Item) → bytes_of (tree_on s (tree_at limit s) (tree_at limit s rules hi) o) ≡ answer_bytes rules hi o
  unfolding bytes_of bytes_at
  on_bytes rules hi (gives (finish p)) = refl
  on_bytes rules hi (gives (marker a x y e)) = refl
  on_bytes rules hi (gives (value v)) =
      ap (λ (name : List ℕ). bytes_of (node_of s name v (tree_at limit s (body_rules v) v.end v.body) (tree_at limit s rules hi v.end))) (sym (part_none s v.start))
      ∙ node_bytes v.start v (tree_at limit s rules hi v.end)
  on_bytes rules hi (gives (field id a v)) = node_bytes a v (tree_at limit s rules hi v.end)
  on_bytes rules hi (refuses n p) = refl

  pub step_bytes : (rules : Rules) (hi at : ℕ) (o : Outcome Item) → o ≡ answer_at limit rules s at hi → bytes_at limit s rules hi at ≡ answer_bytes rules hi o
  unfolding bytes_at
  step_bytes rules hi at o e = ap bytes_of (unrolled rules hi at) ∙ on_bytes rules hi (answer_at limit rules s at hi) ∙ ap (answer_bytes rules hi) (sym e)

pub whole_bytes : (limit : ℕ) (s : List ℕ) → bytes_at limit s Stream (length s) 0 ≡ packed limit s
unfolding packed tree_of bytes_at tree_at
whole_bytes limit s = let z : length s - 0 ≡ length s = omega arith in rw z
