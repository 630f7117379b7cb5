-- Counts: what one more in a place leaves in each, and that a check keeps their number.
-- Assumes nothing.
use Prim.Native.Nat.{ℕ, zero, suc, ◌+◌, ◌-◌, ◌<◌}
use native.Mathlib.Omega.{arith}
use borrow.Author.Tests.{eqb-true, eqb-false}
use mathlib.Core.Path.{◌≡◌, refl, ◌∙◌, sym, ap}
use mathlib.Core.List.{List}
use lib.ListN.{length, get_or, length-set}
use lib.Seq.{get_or-set_same, get_or-set_other}
use lib.Dec.{ltb, eqb}
use Rattle.numbers.specs.Outcome.{Outcome, gives, refuses, pick, and_then}
use Rattle.numbers.proofs.Outcomes.{by_case, Each, given, refused, each_pick, each_then, each_if, each_map}
use Rattle.framing.specs.Spans.{Spans}
use Rattle.stepping.specs.Items.{Item, finish, marker, value, field}
use Rattle.stepping.specs.Answers.{Found, found}
use Rattle.stepping.specs.Runs.{cursor}
use Rattle.stepping.specs.declared.cursor.Rules.{Rules}
use Rattle.values.specs.Scalars.{is_container, body_rules}
use Rattle.checking.specs.Counts.{markers, pads, place_of, counting}
use Rattle.checking.specs.Reading.{Done, done, read_item}
use Rattle.checking.specs.Check.{Parts, least_room, inside_of, value_check, on_answer, on_found, part_check}

pub counting_length : (place n : ℕ) (c : List ℕ) → length (counting place n c) ≡ length c
unfolding counting
counting_length place n c = length-set c place (get_or c place 0 + n)

pub counting_other : (i place n : ℕ) (c : List ℕ) → (i ≡ place → ⊥) → get_or (counting place n c) i 0 ≡ get_or c i 0
unfolding counting
counting_other i place n c ne = get_or-set_other c place i (get_or c place 0 + n) 0 ne

pub counting_same : (i n : ℕ) (c : List ℕ) → i < length c → get_or (counting i n c) i 0 ≡ get_or c i 0 + n
unfolding counting
counting_same i n c l = get_or-set_same c i (get_or c i 0 + n) 0 l

-- n more in a place are n more of the count that is there
pub counting_at : (i place n : ℕ) (c : List ℕ) → i < length c → get_or (counting place n c) i 0 ≡ get_or c i 0 + pick (eqb i place) n 0
counting_at i place n c l =
    by_case (eqb i place)
    (λ e.
    let q : i ≡ place = eqb-true i place e in
    ap (λ (j : ℕ). get_or (counting j n c) i 0) (sym q) ∙ counting_same i n c l ∙ rw e)
    (λ e. counting_other i place n c (eqb-false i place e) ∙ (let z : get_or c i 0 ≡ get_or c i 0 + 0 = omega arith in z ∙ rw e))

-- a check keeps the number of counts
abbrev pub Kept : List ℕ → List ℕ → Type 0
Kept c c' = length c' ≡ length c

-- how a part is checked, with what holds of each answer
abbrev pub EachPart : (List ℕ → List ℕ → Type 0) → Parts → Type 0
EachPart R P = (rules : Rules) (room hi at : ℕ) (c : List ℕ) → Each (R c) (P rules room hi at c)

module _ (s : List ℕ) (P : Parts) (kept : EachPart Kept P) where
  inside_kept : (room : ℕ) (v : Spans) (c : List ℕ) → Each (Kept c) (inside_of P room v c done)
  inside_kept room v c =
      let l = counting_length (place_of v) 1 c in
      each_pick (is_container v)
      (λ _.
      each_pick (ltb room least_room) (λ _. refused)
      (λ _. each_map (kept (body_rules v) (room - 1) v.end v.body (counting (place_of v) 1 c)) (λ c' h. h ∙ l)))
      (λ _. given l)

  after_reading : (room : ℕ) (v : Spans) (c : List ℕ) (d : Done) → Each (Kept c) (inside_of P room v c d)
  after_reading room v c done = inside_kept room v c

  pub value_kept : (room : ℕ) (v : Spans) (c : List ℕ) → Each (Kept c) (value_check s P room v c)
  unfolding value_check
  value_kept room v c = each_then (each_if (read_item s v) (λ d e. e)) (λ d e. after_reading room v c d)

  value_onward : (rules : Rules) (room hi : ℕ) (v : Spans) (c : List ℕ) → Each (Kept c) (and_then (value_check s P room v c) (P rules room hi v.end))
  value_onward rules room hi v c =
      each_then (value_kept room v c) (λ c' h. each_map (kept rules room hi v.end c') (λ c'' k. k ∙ h))

  answer_kept : (rules : Rules) (room hi : ℕ) (c : List ℕ) (o : Outcome Item) → Each (Kept c) (on_answer s P (P rules room hi) room c o)
  answer_kept rules room hi c (gives (finish p)) = given refl
  answer_kept rules room hi c (gives (marker a x y e)) =
      each_map (kept rules room hi e (counting markers 1 c)) (λ c' h. h ∙ counting_length markers 1 c)
  answer_kept rules room hi c (gives (value v)) = value_onward rules room hi v c
  answer_kept rules room hi c (gives (field id a v)) = value_onward rules room hi v c
  answer_kept rules room hi c (refuses n p) = refused

  pub found_kept : (rules : Rules) (room hi : ℕ) (c : List ℕ) (f : Found) → Each (Kept c) (on_found s P (P rules room hi) room c f)
  found_kept rules room hi c f =
      each_map (answer_kept rules room hi (counting pads (length f.pads) c) f.answer) (λ c' h. h ∙ counting_length pads (length f.pads) c)

pub part_kept : (limit : ℕ) (s : List ℕ) (k : ℕ) → EachPart Kept (part_check limit k s)
unfolding part_check
part_kept limit s zero rules room hi at c = given refl
part_kept limit s (suc k) rules room hi at c =
    found_kept s (part_check limit k s) (part_kept limit s k) rules room hi c (found limit rules s (cursor at hi))
