-- The theorems of specs/Theorems.antt on the walk: the check of a part, and then reading what the walk meets behind it, is reading what the walk meets from the
-- part's start on. By induction on the bytes that both go, one item at a time.
-- Assumes nothing.
use Prim.Native.Nat.{ℕ, zero, suc, ◌+◌, ◌-◌, ◌≤◌, ◌<◌}
use native.Mathlib.Omega.{arith}
use borrow.Author.Tests.{eq-eqb, ne_eqb, ltb-true, ltb-false}
use mathlib.Core.Path.{◌≡◌, refl, ◌∙◌, sym, ap, subst}
use mathlib.Core.Bool.{true}
use mathlib.Core.Logic.{⊎_elim}
use mathlib.Core.List.Memᴰ
use mathlib.Core.List.{List, [], ◌∷◌, Memᴰ}
use lib.ListN.{length, get_or, length-replicate, get_or-replicate}
use lib.Dec.{ltb, eqb}
use Rattle.numbers.specs.Outcome.{Outcome, gives, refuses, pick, and_then}
use Rattle.numbers.proofs.Outcomes.{by_case, then_then, then_same, then_gives}
use Rattle.framing.specs.Spans.{Spans}
use Rattle.stepping.specs.Items.{Item, finish, marker, value, field}
use Rattle.stepping.specs.Answers.{found, step_of}
use Rattle.stepping.specs.Runs.{cursor}
use Rattle.stepping.specs.declared.cursor.Rules.{Rules}
use Rattle.stepping.specs.declared.cursor.Rules.TheVariants.{Stream}
use Rattle.values.specs.Scalars.{is_container, body_rules}
use Rattle.walking.specs.Walk.{limits_out, Visit, visit, Inside, behind, following, walk_of, whole_walk}
use Rattle.checking.specs.Counts.{markers, pads, place_of, none, counting}
use Rattle.checking.specs.Reading.{Done, done, read_item}
use Rattle.checking.specs.Check.{Parts, least_room, inside_of, value_check, on_answer, part_check, whole_check}
use Rattle.checking.specs.WalkRead.{one, then_count, read_visit, read_visits, of_answer, items_of}
use Rattle.checking.specs.Theorems.{count_at, ChecksWalk, AcceptedWalk, RefusedWalk, FirstRefusal}
use Rattle.checking.proofs.Tallies.{counting_length, counting_other, counting_at, Kept, EachPart, part_kept}

module _ (deepest : ℕ) (s : List ℕ) (i : ℕ) (no-pads : i ≡ 1 → ⊥) where
  -- what the walk meets later is read with the counts so far
  abbrev reads : List Visit → List ℕ → Outcome ℕ
  reads rest c = read_visits i s rest (get_or c i 0)

  -- the two go alike from a place of depth d on
  abbrev Alike : Parts → Inside → Type 0
  Alike P W =
      (rules : Rules) (d room hi at : ℕ) (rest : List Visit) (c : List ℕ) → d + room ≡ deepest → i < length c
      → and_then (P rules room hi at c) (reads rest) ≡ read_visits i s (W rules d hi at rest) (get_or c i 0)

  module _ (P : Parts) (W : Inside) (kept : EachPart Kept P) (alike : Alike P W) (rules : Rules) (d room hi : ℕ) (rest : List Visit) (q : d + room ≡ deepest) where
    -- one more in a place, and on from e
    onward : (c : List ℕ) (place e : ℕ) → i < length c → and_then (P rules room hi e (counting place 1 c)) (reads rest) ≡ read_visits i s (W rules d hi e rest) (get_or c i 0 + one i place)
    onward c place e l =
        alike rules d room hi e rest (counting place 1 c) q (subst (λ (n : ℕ). i < n) (sym (counting_length place 1 c)) l)
        ∙ ap (read_visits i s (W rules d hi e rest)) (counting_at i place 1 c l)

    -- a container's inside, and on behind it
    entered : (v : Spans) (c : List ℕ) → i < length c → is_container v ≡ true
        → and_then (and_then (pick (ltb room least_room) (refuses 37 v.descriptor) (P (body_rules v) (room - 1) v.end v.body (counting (place_of v) 1 c))) (P rules room hi v.end)) (reads rest)
        ≡ read_visits i s (pick (eqb d deepest) (visit d (refuses 37 v.descriptor) ∷ []) (W (body_rules v) (suc d) v.end v.body (W rules d hi v.end rest))) (get_or c i 0 + one i (place_of v))
    unfolding read_visits
    entered v c l h =
        by_case (ltb room least_room)
        (λ e.
        let z : room < least_room = ltb-true room least_room e in
        rw (e, eq-eqb d deepest (omega arith)))
        (λ e.
        let z : least_room ≤ room = ltb-false room least_room e in
        let c' = counting (place_of v) 1 c in
        let l' : i < length c' = subst (λ (n : ℕ). i < n) (sym (counting_length (place_of v) 1 c)) l in
        let deeper : suc d + (room - 1) ≡ deepest = omega arith in
        rw (e, ne_eqb d deepest (omega arith))
        (then_then (P (body_rules v) (room - 1) v.end v.body c') (P rules room hi v.end) (reads rest)
        ∙ then_same (kept (body_rules v) (room - 1) v.end v.body c') refl (λ c'' k.
        alike rules d room hi v.end rest c'' q (subst (λ (n : ℕ). i < n) (sym k) l'))
        ∙ alike (body_rules v) (suc d) (room - 1) v.end v.body (W rules d hi v.end rest) c' deeper l'
        ∙ ap (read_visits i s (W (body_rules v) (suc d) v.end v.body (W rules d hi v.end rest))) (counting_at i (place_of v) 1 c l)))

    inside : (v : Spans) (c : List ℕ) → i < length c
        → and_then (and_then (inside_of P room v c done) (P rules room hi v.end)) (reads rest)
        ≡ read_visits i s (behind deepest d v W (λ e. W rules d hi e rest)) (get_or c i 0 + one i (place_of v))
    inside v c l =
        by_case (is_container v) (λ h. rw h (entered v c l h)) (λ h. rw h (onward c (place_of v) v.end l))

    -- a value that is read, or refused, by both
    valued : (v : Spans) (c : List ℕ) → i < length c → (o : Outcome Done)
        → and_then (and_then (and_then o (inside_of P room v c)) (P rules room hi v.end)) (reads rest)
        ≡ and_then o (then_count (read_visits i s (behind deepest d v W (λ e. W rules d hi e rest))) (get_or c i 0 + one i (place_of v)))
    valued v c l (gives done) = inside v c l
    valued v c l (refuses n p) = refl

    answered : (c : List ℕ) → i < length c → (o : Outcome Item)
        → and_then (on_answer s P (P rules room hi) room c o) (reads rest) ≡ read_visits i s (following deepest d rest W (λ e. W rules d hi e rest) o) (get_or c i 0)
    unfolding read_visits value_check
    answered c l (gives (finish p)) = refl
    answered c l (gives (marker a x y e)) = onward c markers e l
    answered c l (gives (value v)) = valued v c l (read_item s v)
    answered c l (gives (field id a v)) = valued v c l (read_item s v)
    answered c l (refuses n p) = refl

  module _ (limit : ℕ) where
    part_alike : (k : ℕ) → Alike (part_check limit k s) (walk_of limit deepest k s)
    unfolding part_check walk_of step_of
    part_alike zero rules d room hi at rest c q l = refl
    part_alike (suc k) rules d room hi at rest c q l =
        let f = found limit rules s (cursor at hi) in
        let c' = counting pads (length f.pads) c in
        answered (part_check limit k s) (walk_of limit deepest k s) (part_kept limit s k) (part_alike k) rules d room hi rest q c' (subst (λ (n : ℕ). i < n) (sym (counting_length pads (length f.pads) c)) l) f.answer
        ∙ ap (read_visits i s (walk_of limit deepest (suc k) s rules d hi at rest)) (counting_other i pads (length f.pads) c no-pads)

pub checks-walk : ChecksWalk
unfolding whole_check whole_walk read_visits
checks-walk limit deepest s i l n =
    by_case (limits_out limit deepest) (λ h. rw h) (λ h.
    let z : 0 + deepest ≡ deepest = omega arith in
    let k : i < length none = subst (λ (m : ℕ). i < m) (sym (length-replicate {A = ℕ} 15 0)) l in
    rw h
    (part_alike deepest s i n limit (length s) Stream 0 deepest (length s) 0 (visit 0 (gives (finish (length s))) ∷ []) none z k
    ∙ ap (read_visits i s (walk_of limit deepest (length s) s Stream 0 (length s) 0 (visit 0 (gives (finish (length s))) ∷ []))) (get_or-replicate 15 i 0 0 l)))

-- ---- what reading to the end says of the items

abbrev Unrefused : List Visit → Type 0
Unrefused vs = (d number position : ℕ) → Memᴰ (visit d (refuses number position)) vs → ⊥

-- an answer that is no refusal, before others that are none
unrefused_after : (e : ℕ) {o : Outcome Item} {vs : List Visit} → ((n p : ℕ) → o ≡ refuses n p → ⊥) → Unrefused vs → Unrefused (visit e o ∷ vs)
unrefused_after e f u d n p m = ⊎_elim (λ q. f n p (sym (ap (λ (x : Visit). x.answer) q))) (u d n p) (Memᴰ.cases_cons m)

item_given : {i : Item} (n p : ℕ) → gives i ≡ refuses n p → ⊥
item_given n p q = absurd (let z : ◌≡◌ {A = ℕ} 0 1 = cc in omega arith)

-- n items are counted before, and none of the list is refused
pub record Counted (i : ℕ) (vs : List Visit) (n m : ℕ) : Type 0 where
  pub sum : m ≡ n + items_of i vs
  pub unrefused : Unrefused vs

one_more : (i e j n m : ℕ) (x : Item) (vs : List Visit) → of_answer i (gives x) ≡ j → Counted i vs (n + j) m → Counted i (visit e (gives x) ∷ vs) n m
one_more i e j n m x vs q c =
    record { sum = c.sum ∙ (let r : n + j + items_of i vs ≡ n + (j + items_of i vs) = omega arith in r ∙ rw q); unrefused = unrefused_after e item_given c.unrefused }

then_counts : (go : ℕ → Outcome ℕ) (n : ℕ) {m : ℕ} (d : Done) → then_count go n d ≡ gives m → go n ≡ gives m
then_counts go n done h = h

module _ (i : ℕ) (s : List ℕ) (vs : List Visit) (e n m : ℕ) (later : (n : ℕ) → read_visits i s vs n ≡ gives m → Counted i vs n m) where
  value_counted : (v : Spans) (x : Item) → of_answer i (gives x) ≡ one i (place_of v) → and_then (read_item s v) (then_count (read_visits i s vs) (n + one i (place_of v))) ≡ gives m → Counted i (visit e (gives x) ∷ vs) n m
  value_counted v x q h =
      let r = then_gives (read_item s v) (then_count (read_visits i s vs) (n + one i (place_of v))) h in
      one_more i e (one i (place_of v)) n m x vs q (later (n + one i (place_of v)) (then_counts (read_visits i s vs) (n + one i (place_of v)) r.0 r.2))

  visit_counted : (o : Outcome Item) → read_visit i s (read_visits i s vs) n o ≡ gives m → Counted i (visit e o ∷ vs) n m
  visit_counted (gives (finish p)) h =
      let z : n + 0 ≡ n = omega arith in
      one_more i e 0 n m (finish p) vs refl (subst (λ (k : ℕ). Counted i vs k m) (sym z) (later n h))
  visit_counted (gives (marker a x y f)) h = one_more i e (one i markers) n m (marker a x y f) vs refl (later (n + one i markers) h)
  visit_counted (gives (value v)) h = value_counted v (value v) refl h
  visit_counted (gives (field id a v)) h = value_counted v (field id a v) refl h
  visit_counted (refuses k p) h = absurd (let z : ◌≡◌ {A = ℕ} 0 1 = cc in omega arith)

pub read_counted : (i : ℕ) (s : List ℕ) (vs : List Visit) (n m : ℕ) → read_visits i s vs n ≡ gives m → Counted i vs n m
unfolding read_visits
read_counted i s [] n m h =
    let q : n ≡ m = cc in
    record { sum = omega arith; unrefused = λ d number position x. Memᴰ.not-nil x }
read_counted i s (v ∷ vs) n m h = visit_counted i s vs v.depth n m (λ k q. read_counted i s vs k m q) v.answer h

accepted_counted : (limit deepest : ℕ) (s c : List ℕ) → whole_check limit deepest s ≡ gives c → (i : ℕ) → i < 15 → (i ≡ 1 → ⊥) → Counted i (whole_walk limit deepest s) 0 (get_or c i 0)
accepted_counted limit deepest s c h i l n =
    read_counted i s (whole_walk limit deepest s) 0 (get_or c i 0) (sym (checks-walk limit deepest s i l n) ∙ ap (λ (o : Outcome (List ℕ)). and_then o (count_at i)) h)

pub accepted-walk : AcceptedWalk
accepted-walk limit deepest s c h =
    record {
      unrefused = (accepted_counted limit deepest s c h 0 (omega arith) (λ (e : ◌≡◌ {A = ℕ} 0 1). omega arith)).unrefused;
      counted = λ i l n.
          let z : 0 + items_of i (whole_walk limit deepest s) ≡ items_of i (whole_walk limit deepest s) = omega arith in
          (accepted_counted limit deepest s c h i l n).sum ∙ z;
    }

pub refused-walk : RefusedWalk
refused-walk limit deepest s d number position m = go (whole_check limit deepest s) refl
  where
    go : (o : Outcome (List ℕ)) → whole_check limit deepest s ≡ o → (n : ℕ) × (p : ℕ) × (whole_check limit deepest s ≡ refuses n p)
    go (gives c) q = absurd ((accepted-walk limit deepest s c q).unrefused d number position m)
    go (refuses n p) q = (n, p, q)

pub first-refusal : FirstRefusal
first-refusal limit deepest s number position h =
    sym (checks-walk limit deepest s 0 (omega arith) (λ (e : ◌≡◌ {A = ℕ} 0 1). omega arith)) ∙ ap (λ (o : Outcome (List ℕ)). and_then o (count_at 0)) h
