-- The walk of an accepted map is its tree, each container before what is in it; so the walk of the packed map, which is read as the same tree, meets the same.
-- Assumes nothing.
use Prim.Native.Nat.{ℕ, zero, suc, ◌+◌, ◌-◌, ◌≤◌}
use native.Mathlib.Omega.{arith}
use mathlib.Core.Path.{◌≡◌, refl, ◌∙◌, sym, ap}
use mathlib.Core.Bool.{false}
use mathlib.Core.List.{List, [], ◌∷◌, map}
use lib.ListN.{length}
use lib.Dec.{ltb}
use borrow.Author.Tests.{ne_eqb, ltb-false}
use Rattle.numbers.specs.Outcome.{Outcome, gives, refuses}
use Rattle.numbers.specs.Bytes.{part}
use Rattle.numbers.proofs.Outcomes.{by_case, refuse_gives}
use Rattle.framing.specs.Spans.{Spans}
use Rattle.stepping.specs.Items.{Item, finish, marker, value, field}
use Rattle.stepping.specs.Answers.{found, step_of}
use Rattle.stepping.specs.Runs.{cursor}
use Rattle.stepping.specs.declared.cursor.Rules.{Rules}
use Rattle.stepping.specs.declared.cursor.Rules.TheVariants.{Stream}
use Rattle.values.specs.Scalars.{is_container, body_rules, type_of}
use Rattle.walking.specs.Walk.{limits_out, Visit, visit, behind, following, walk_of, whole_walk}
use Rattle.checking.specs.Counts.{pads, place_of, none, counting}
use Rattle.checking.specs.Check.{least_room, on_answer, part_check, whole_check}
use Rattle.packing.specs.Tree.{Tree, bytes_of}
use Rattle.packing.specs.Packed.{head_of, node_of, tree_on, tree_in, tree_of, packed}
use Rattle.packing.specs.Meant.{Meant, an_end, a_marker, a_scalar, a_container, meant_value, meant, preorder}
use Rattle.packing.specs.Theorems.{SameItems}
use Rattle.packing.proofs.Back.{kept_kin}
use Rattle.packing.proofs.Accepted.{Checks, checks, held_room, held_inside, packed-accepted}
use Rattle.packing.proofs.Twice.{packed-tree}

module _ (limit deepest : ℕ) (s : List ℕ) where
  -- where the check of a part goes through, its walk is its tree
  abbrev Preorder : ℕ → Type 0
  Preorder k =
      (rules : Rules) (d room hi at : ℕ) (rest : List Visit) (c c' : List ℕ) → d + room ≡ deepest → part_check limit k s rules room hi at c ≡ gives c'
      → map (meant s) (walk_of limit deepest k s rules d hi at rest) ≡ preorder d (tree_in limit k s rules hi at) (map (meant s) rest)

  module _ (k : ℕ) (ih : Preorder k) (rules : Rules) (d room hi : ℕ) (rest : List Visit) (c c' : List ℕ) (deep : d + room ≡ deepest) where
    abbrev onward : ℕ → List Visit
    onward e = walk_of limit deepest k s rules d hi e rest

    abbrev T : Rules → ℕ → ℕ → Tree
    T = tree_in limit k s

    node_order : (name : List ℕ) (v : Spans) → Checks s (part_check limit k s) (part_check limit k s rules room hi v.end) room v c c' → meant_value s d name v ∷ map (meant s) (behind deepest d v (walk_of limit deepest k s) onward) ≡ preorder d (node_of s name v (T (body_rules v) v.end v.body) (T rules hi v.end)) (map (meant s) rest)
    unfolding meant_value node_of preorder
    node_order name v q =
        by_case (is_container v)
        (λ y.
        let l : ltb room least_room ≡ false = held_room (part_check limit k s) room v c y q.inside in
        let some : least_room ≤ room = ltb-false room least_room l in
        let inside : Tree = T (body_rules v) v.end v.body in
        let in-it : part_check limit k s (body_rules v) (room - 1) v.end v.body (counting (place_of v) 1 c) ≡ gives q.behind = sym (held_inside (part_check limit k s) room v c y l) ∙ q.inside in
        let deeper : suc d + (room - 1) ≡ deepest = omega arith in
        rw (y, ne_eqb d deepest (λ e. omega arith), (kept_kin v.byte (length (bytes_of inside))).type)
        (ap (λ (l : List Meant). a_container d name (part s v.annotations v.descriptor) (type_of v) ∷ l)
        (ih (body_rules v) (suc d) (room - 1) v.end v.body (onward v.end) (counting (place_of v) 1 c) q.behind deeper in-it
        ∙ ap (preorder (suc d) inside) (ih rules d room hi v.end rest q.behind c' deep q.onward))))
        (λ y.
        rw y (ap (λ (l : List Meant). a_scalar d (head_of s name v (length (part s v.body v.end))) (part s v.body v.end) ∷ l) (ih rules d room hi v.end rest q.behind c' deep q.onward)))

    answer_order : (o : Outcome Item) → on_answer s (part_check limit k s) (part_check limit k s rules room hi) room c o ≡ gives c' → map (meant s) (following deepest d rest (walk_of limit deepest k s) onward o) ≡ preorder d (tree_on s T (T rules hi) o) (map (meant s) rest)
    unfolding preorder
    answer_order (gives (finish p)) e = refl
    answer_order (gives (marker a x y z)) e = ap (λ (l : List Meant). a_marker d x y ∷ l) (ih rules d room hi z rest (counting 0 1 c) c' deep e)
    answer_order (gives (value v)) e = node_order [] v (checks s (part_check limit k s) (part_check limit k s rules room hi v.end) room v c c' e)
    answer_order (gives (field id a v)) e = node_order (part s a v.start) v (checks s (part_check limit k s) (part_check limit k s rules room hi v.end) room v c c' e)
    answer_order (refuses n p) e = absurd (let z : ◌≡◌ {A = ℕ} 0 1 = cc in omega arith)

  part_order : (k : ℕ) → Preorder k
  unfolding walk_of tree_in part_check preorder step_of
  part_order zero rules d room hi at rest c c' deep e = refl
  part_order (suc k) rules d room hi at rest c c' deep e =
      answer_order k (part_order k) rules d room hi rest (counting pads (length (found limit rules s (cursor at hi)).pads) c) c' deep (found limit rules s (cursor at hi)).answer e

  whole_order : (c : List ℕ) → whole_check limit deepest s ≡ gives c → map (meant s) (whole_walk limit deepest s) ≡ preorder 0 (tree_of limit s) (an_end 0 ∷ [])
  unfolding whole_check whole_walk tree_of
  whole_order c e =
      let q = refuse_gives (limits_out limit deepest) 68 0 e in
      rw q.0
      (part_order (length s) Stream 0 deepest (length s) 0 (visit 0 (gives (finish (length s))) ∷ []) none c (omega arith) q.1)

pub same-items : SameItems
same-items limit deepest s c e =
    whole_order limit deepest (packed limit s) _ (packed-accepted limit deepest s c e)
    ∙ ap (λ (t : Tree). preorder 0 t (an_end 0 ∷ [])) (packed-tree limit s)
    ∙ sym (whole_order limit deepest s c e)
