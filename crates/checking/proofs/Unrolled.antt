-- The check of a part, one step at a time: what its first step meets, and what follows. With bytes enough their number makes no difference.
-- Assumes nothing.
use Prim.Native.Nat.{ℕ, zero, suc, ◌+◌, ◌-◌, ◌≤◌, ◌<◌}
use native.Mathlib.Omega.{arith}
use mathlib.Core.Bool.{true, false}
use mathlib.Core.Path.{◌≡◌, refl, ◌∙◌, sym, ap}
use mathlib.Core.List.{List}
use lib.ListN.{length, get_or}
use lib.Seq.{set-get_or}
use lib.Dec.{ltb}
use Rattle.std.specs.Prelude.{Result, Ok, Err}
use Rattle.numbers.specs.Outcome.{Outcome, gives, refuses, and_then}
use Rattle.numbers.specs.declared.refusal.Refusal.{Refusal}
use Rattle.numbers.proofs.Outcomes.{pick_same, then_like, inside}
use Rattle.framing.specs.Limits.{out_of_range}
use Rattle.framing.specs.Spans.{Spans}
use Rattle.stepping.specs.Items.{Item, finish, marker, value, field}
use Rattle.stepping.specs.Answers.{stop, skip_pads, found}
use Rattle.stepping.specs.Runs.{cursor}
use Rattle.stepping.specs.declared.cursor.Rules.{Rules}
use Rattle.stepping.proofs.Places.{ValueIn}
use Rattle.stepping.specs.declared.cursor.Rules.TheVariants.{Stream}
use Rattle.values.specs.Scalars.{is_container, body_rules}
use Rattle.walking.specs.Walk.{limits_out}
use Rattle.checking.specs.Counts.{markers, pads, place_of, none, counting}
use Rattle.checking.specs.Reading.{Done, done, as_done, read_item}
use Rattle.checking.specs.Read.{done_read, verdict_read}
use Rattle.checking.specs.Check.{Parts, least_room, inside_of, value_check, on_answer, on_found, part_check, whole_check}
use Rattle.checking.specs.Private.Whole.{full}
use Rattle.checking.proofs.Places.{Lies, lies_earlier, found_behind}

pub counting_none : (place : ℕ) (c : List ℕ) → counting place 0 c ≡ c
unfolding counting
counting_none place c = (let z : get_or c place 0 + 0 ≡ get_or c place 0 = omega arith in rw z) ∙ set-get_or c place 0

-- two ways to go on that agree on what lies behind `at` in the part that ends at hi
module _ (s : List ℕ) (room at hi : ℕ) (P P' : Parts) (O O' : ℕ → List ℕ → Outcome (List ℕ)) (within : (r : Rules) (n e b : ℕ) (c : List ℕ) → at < b → b ≤ e → e ≤ hi → P r n e b c ≡ P' r n e b c) (onward : (e : ℕ) (c : List ℕ) → at < e → e ≤ hi → O e c ≡ O' e c) where
  inside_same : {v : Spans} → ValueIn at hi v → (c : List ℕ) (d : Done) → inside_of P room v c d ≡ inside_of P' room v c d
  inside_same {v} i c done =
      pick_same (is_container v)
      (λ _.
      pick_same (ltb room least_room) (λ _. refl)
      (λ _. within (body_rules v) (room - 1) v.end v.body (counting (place_of v) 1 c) (omega (arith, i.low, i.bodied)) i.ended i.within))
      (λ _. refl)

  value_same : {v : Spans} → ValueIn at hi v → (c : List ℕ) → and_then (value_check s P room v c) (O v.end) ≡ and_then (value_check s P' room v c) (O' v.end)
  unfolding value_check
  value_same {v} i c =
      then_like (value_check s P room v c) (λ c'. onward v.end c' (omega (arith, i.low, i.bodied, i.ended)) i.within)
      ∙ ap (λ (o : Outcome (List ℕ)). and_then o (O' v.end)) (then_like (read_item s v) (inside_same i c))

  answer_same : (o : Outcome Item) → ((x : Item) → o ≡ gives x → Lies at hi x) → (c : List ℕ) → on_answer s P O room c o ≡ on_answer s P' O' room c o
  answer_same (gives (finish p)) h c = refl
  answer_same (gives (marker a x y e)) h c = let l = h (marker a x y e) refl in onward e (counting markers 1 c) l.0 l.1
  answer_same (gives (value v)) h c = value_same (h (value v) refl) c
  answer_same (gives (field id a v)) h c = value_same (h (field id a v) refl) c
  answer_same (refuses n p) h c = refl

  pub found_same : (limit : ℕ) (rules : Rules) → at ≤ hi → (c : List ℕ) → on_found s P O room c (found limit rules s (cursor at hi)) ≡ on_found s P' O' room c (found limit rules s (cursor at hi))
  found_same limit rules l c =
      let f = found limit rules s (cursor at hi) in
      let b = found_behind limit rules s hi at l in
      answer_same f.answer (λ x e. lies_earlier at (at + length f.pads) hi x (omega arith) (b.lies x e)) (counting pads (length f.pads) c)

module _ (limit : ℕ) (s : List ℕ) (ranged : out_of_range limit ≡ false) where
  -- nothing of a part is left
  found_end : (rules : Rules) (hi : ℕ) → hi ≤ length s → found limit rules s (cursor hi hi) ≡ stop (gives (finish hi))
  unfolding found skip_pads
  found_end rules hi k =
      let z : hi - hi ≡ 0 = omega arith in
      rw (ranged, inside s hi hi (omega arith) k, z)

  ended : (rules : Rules) (room at hi : ℕ) (c : List ℕ) (P : Parts) (O : ℕ → List ℕ → Outcome (List ℕ)) → at ≡ hi → hi ≤ length s → gives c ≡ on_found s P O room c (found limit rules s (cursor at hi))
  ended rules room at hi c P O e k = rw (e, found_end rules hi k) (ap gives (sym (counting_none pads c)))

  fuel : (k k' : ℕ) (rules : Rules) (room hi at : ℕ) (c : List ℕ) → at ≤ hi → hi ≤ length s → hi - at ≤ k → hi - at ≤ k' → part_check limit k s rules room hi at c ≡ part_check limit k' s rules room hi at c
  unfolding part_check
  fuel zero zero rules room hi at c l m f g = refl
  fuel zero (suc k') rules room hi at c l m f g = ended rules room at hi c (part_check limit k' s) (part_check limit k' s rules room hi) (omega arith) m
  fuel (suc k) zero rules room hi at c l m f g = sym (ended rules room at hi c (part_check limit k s) (part_check limit k s rules room hi) (omega arith) m)
  fuel (suc k) (suc k') rules room hi at c l m f g =
      found_same s room at hi (part_check limit k s) (part_check limit k' s) (part_check limit k s rules room hi) (part_check limit k' s rules room hi)
      (λ r n e b d p q t. fuel k k' r n e b d q (omega arith) (omega arith) (omega arith))
      (λ e d p q. fuel k k' rules room hi e d q m (omega arith) (omega arith))
      limit rules l c

  pub unrolled : (rules : Rules) (room hi at : ℕ) (c : List ℕ) → at ≤ hi → hi ≤ length s → full limit s rules room hi at c ≡ on_found s (full limit s) (full limit s rules room hi) room c (found limit rules s (cursor at hi))
  unfolding full part_check
  unrolled rules room hi at c l m =
      fuel (hi - at) (suc (hi - at)) rules room hi at c l m (omega arith) (omega arith)
      ∙ found_same s room at hi (part_check limit (hi - at) s) (full limit s) (part_check limit (hi - at) s rules room hi) (full limit s rules room hi)
      (λ r n e b d p q t. fuel (hi - at) (e - b) r n e b d q (omega arith) (omega arith) (omega arith))
      (λ e d p q. fuel (hi - at) (hi - e) rules room hi e d q m (omega arith) (omega arith))
      limit rules l c

-- the whole check: 68 for limits that are none, else that of the stream
module _ (limit deepest : ℕ) (s : List ℕ) where
  pub whole_out : limits_out limit deepest ≡ true → whole_check limit deepest s ≡ refuses 68 0
  unfolding whole_check
  whole_out h = rw h

  pub whole_in : limits_out limit deepest ≡ false → full limit s Stream deepest (length s) 0 none ≡ whole_check limit deepest s
  unfolding whole_check full
  whole_in h = let z : length s - 0 ≡ length s = omega arith in rw (h, z)

-- a body by itself
pub body_in : (limit room : ℕ) (rules : Rules) (s : List ℕ) → full limit s rules room (length s) 0 none ≡ part_check limit (length s) s rules room (length s) 0 none
unfolding full
body_in limit room rules s = let z : length s - 0 ≡ length s = omega arith in rw z

-- a verdict by itself is the one that leaves counts
pub done_alone : (u : Result (Unit {0}) Refusal) (c : List ℕ) → and_then (verdict_read u c) as_done ≡ done_read u
done_alone (Ok u) c = refl
done_alone (Err e) c = refl

pub ruleset whole = (whole_out, whole_in)

pub ruleset body = (body_in, done_alone)
