-- What `seek` answers at a place: the step's own answer, or behind an end what is answered above. So a state's answer, by what the step at its place answers.
-- Assumes nothing.
use Prim.Native.Nat.{ℕ, zero, suc, ◌-◌, ◌≤◌, ◌<◌}
use native.Mathlib.Omega.{arith}
use mathlib.Core.Path.{◌≡◌, refl, ◌∙◌, sym, ap, fun_ext}
use mathlib.Core.List.{List}
use lib.ListN.{length}
use lib.Dec.{ltb}
use mathlib.Core.Bool.{Bool, true, false, true≢false}
use borrow.Author.Tests.{ltb-false, lt-ltb, le-ltb}
use Rattle.numbers.specs.Outcome.{Outcome, gives, refuses, outside_of}
use Rattle.numbers.proofs.Outcomes.{by_test, inside}
use Rattle.framing.specs.Limits.{out_of_range}
use Rattle.stepping.specs.Items.{Item, finish, marker, value, field}
use Rattle.stepping.specs.Answers.{found, step_of, answer_at}
use Rattle.stepping.specs.Leaving.{is_last}
use Rattle.stepping.specs.Read.{places_of}
use Rattle.stepping.specs.declared.cursor.Item.{Item as ItemEnum}
use Rattle.stepping.specs.declared.cursor.Item.TheVariants.{End, Marker, Value, Field}
use Rattle.stepping.proofs.Places.{a_marker, a_value, a_field}
use Rattle.stepping.proofs.Moves.{Moves, ends, hands, stops, moves, moves_end}
use Rattle.walking.specs.Walk.{limits_out, Visit, visit}
use Rattle.walking.specs.Calls.{end_at, rules_at, or_above, seek, moved_to, barred, visit_of}
use Rattle.walking.specs.Theorems.{DepthBound}
use Rattle.walking.specs.declared.walk.Walk.{Walk}

-- in the stream
pub in_stream : (limit : ℕ) (s : List ℕ) (w : Walk) (d at : ℕ) (o : Outcome Item) → d ≡ 0 → o ≡ answer_at limit (rules_at w d) s at (end_at w d) → visit d o ≡ seek limit s w d at
unfolding seek
in_stream limit s w zero at o e h = rw h
in_stream limit s w (suc d) at o e h = absurd (omega arith)

-- behind the end of a part that is no stream
pub above : (limit : ℕ) (s : List ℕ) (w : Walk) (d at p : ℕ) → 1 ≤ d → gives (finish p) ≡ answer_at limit (rules_at w d) s at (end_at w d) → seek limit s w (d - 1) p ≡ seek limit s w d at
unfolding seek
above limit s w zero at p l h = absurd (omega arith)
above limit s w (suc d) at p l h =
    let e : suc d - 1 ≡ d = omega arith in
    rw e (ap (or_above (suc d) (seek limit s w d)) h)

-- an answer that is no end
no_end : (d : ℕ) (up : ℕ → Visit) (o : Outcome Item) → ((p : ℕ) → o ≡ gives (finish p) → ⊥) → or_above d up o ≡ visit d o
no_end d up (gives (finish p)) n = absurd (n p refl)
no_end d up (gives (marker a x y e)) n = refl
no_end d up (gives (value v)) n = refl
no_end d up (gives (field id a v)) n = refl
no_end d up (refuses n p) m = refl

pub here : (limit : ℕ) (s : List ℕ) (w : Walk) (d at : ℕ) (o : Outcome Item) → ((p : ℕ) → o ≡ gives (finish p) → ⊥) → o ≡ answer_at limit (rules_at w d) s at (end_at w d) → visit d o ≡ seek limit s w d at
unfolding seek
here limit s w zero at o n h = rw h
here limit s w (suc d) at o n h = sym (no_end (suc d) (seek limit s w d) o n) ∙ ap (or_above (suc d) (seek limit s w d)) h

-- an item that is no end, as an answer
pub not_end : (x : ItemEnum) → ((p : ℕ) → x ≡ End p → ⊥) → (p : ℕ) → ◌≡◌ {A = Outcome Item} (gives (places_of x)) (gives (finish p)) → ⊥
not_end (End p) l q e = absurd (l p refl)
not_end (Marker a x y f) l q e = absurd (let z : ◌≡◌ {A = ℕ} 0 1 = cc in omega arith)
not_end (Value v) l q e = absurd (let z : ◌≡◌ {A = ℕ} 0 1 = cc in omega arith)
not_end (Field id a v) l q e = absurd (let z : ◌≡◌ {A = ℕ} 0 1 = cc in omega arith)

pub ruleset sought = (in_stream, above, here, not_end)

-- an item that is no end is not the last answer
pub handed : (x : ItemEnum) → ((p : ℕ) → x ≡ End p → ⊥) → is_last (gives (places_of x)) ≡ false
handed (End p) l = absurd (l p refl)
handed (Marker a x y f) l = refl
handed (Value v) l = refl
handed (Field id a v) l = refl

-- what is sought is no deeper than where the search begins
at_most : (d : ℕ) (up : ℕ → Visit) (o : Outcome Item) → ((p : ℕ) → (up p).depth ≤ d) → (or_above d up o).depth ≤ d
at_most d up (gives (finish p)) h = h p
at_most d up (gives (marker a x y e)) h = omega arith
at_most d up (gives (value v)) h = omega arith
at_most d up (gives (field id a v)) h = omega arith
at_most d up (refuses n p) h = omega arith

seek_depth : (limit : ℕ) (s : List ℕ) (w : Walk) (d at : ℕ) → (seek limit s w d at).depth ≤ d
unfolding seek
seek_depth limit s w zero at = omega arith
seek_depth limit s w (suc d) at = at_most (suc d) (seek limit s w d) (answer_at limit (rules_at w (suc d)) s at (end_at w (suc d))) (λ p. omega (arith, seek_depth limit s w d p))

pub visit_depth : DepthBound
unfolding visit_of barred
visit_depth limit deepest s w =
    by_test (λ (v : Visit). v.depth ≤ deepest) (limits_out limit deepest) (λ _. omega arith) (λ _.
    by_test (λ (v : Visit). v.depth ≤ deepest) (ltb deepest w.depth) (λ _. omega arith) (λ h.
    let l : w.depth ≤ deepest = ltb-false deepest w.depth h in
    by_test (λ (v : Visit). v.depth ≤ deepest) w.deep
    (λ _. by_test (λ (v : Visit). v.depth ≤ deepest) (outside_of s w.at (end_at w w.depth)) (λ _. omega arith) (λ _. l))
    (λ _. omega (arith, l, seek_depth limit s w w.depth w.at))))

-- with limits that are none, 68 at every state
pub visit_unranged : (limit deepest : ℕ) (s : List ℕ) (w : Walk) → limits_out limit deepest ≡ true → visit_of limit deepest s w ≡ visit 0 (refuses 68 0)
unfolding visit_of
visit_unranged limit deepest s w g = rw g

-- the answer of a state that is not too deep
pub visit_seek : (limit deepest : ℕ) (s : List ℕ) (w : Walk) → limits_out limit deepest ≡ false → w.depth ≤ deepest → w.deep ≡ false → visit_of limit deepest s w ≡ seek limit s w w.depth w.at
unfolding visit_of
visit_seek limit deepest s w g l h = rw (g, le-ltb deepest w.depth l, h)

-- the answer of a state at a container that is too deep
pub visit_barred : (limit deepest : ℕ) (s : List ℕ) (w : Walk) → limits_out limit deepest ≡ false → w.depth ≤ deepest → w.deep ≡ true → w.at ≤ end_at w w.depth → end_at w w.depth ≤ length s → visit_of limit deepest s w ≡ visit w.depth (refuses 37 w.at)
unfolding visit_of barred
visit_barred limit deepest s w g l h k m = rw (g, le-ltb deepest w.depth l, h, inside s w.at (end_at w w.depth) k m)

-- what is sought from a place is no matter of the state's own place
seek_moved : (limit : ℕ) (s : List ℕ) (w : Walk) (k from : ℕ) (deep : Bool) (d at : ℕ) → seek limit s (moved_to w k from deep) d at ≡ seek limit s w d at
unfolding seek
seek_moved limit s w k from deep zero at = refl
seek_moved limit s w k from deep (suc d) at =
    ap (λ (up : ℕ → Visit). or_above (suc d) up (answer_at limit (rules_at w (suc d)) s at (end_at w (suc d)))) (fun_ext (seek_moved limit s w k from deep d))

-- what a step at a state's place answers
abbrev pub step_here : ℕ → List ℕ → Walk → Outcome Item
step_here limit s w = answer_at limit (rules_at w w.depth) s w.at (end_at w w.depth)

-- outside the slice it is refused
pub outside_here : (limit : ℕ) (s : List ℕ) (w : Walk) → out_of_range limit ≡ false → outside_of s w.at (end_at w w.depth) ≡ true → step_here limit s w ≡ refuses 50 0
unfolding step_of found
outside_here limit s w g h = rw (h, g, answer_at)

-- nothing is left of the part
pub nothing_here : (limit : ℕ) (s : List ℕ) (w : Walk) → out_of_range limit ≡ false → w.at ≡ end_at w w.depth → end_at w w.depth ≤ length s → step_here limit s w ≡ gives (finish (end_at w w.depth))
nothing_here limit s w g e k =
    ap (λ (at : ℕ). answer_at limit (rules_at w w.depth) s at (end_at w w.depth)) e ∙ moves_end limit (rules_at w w.depth) s (end_at w w.depth) k g

-- an end is the part's
ends_at : {at hi p : ℕ} {o : Outcome Item} → Moves at hi o → o ≡ gives (finish p) → p ≡ hi
ends_at ends e = cc
ends_at (hands (a_marker l m)) e = absurd (let z : ◌≡◌ {A = ℕ} 0 1 = cc in omega arith)
ends_at (hands (a_value v)) e = absurd (let z : ◌≡◌ {A = ℕ} 0 1 = cc in omega arith)
ends_at (hands (a_field v)) e = absurd (let z : ◌≡◌ {A = ℕ} 0 1 = cc in omega arith)
ends_at (stops n) e = absurd (let z : ◌≡◌ {A = ℕ} 0 1 = cc in omega arith)

-- no item is an end
not_last : (o : Outcome Item) → is_last o ≡ false → (p : ℕ) → o ≡ gives (finish p) → ⊥
not_last o h p e = true≢false (sym (ap is_last e) ∙ h)

-- the last answers of a walk: at a state that is too deep, or at a container that is
pub too_deep : (limit deepest : ℕ) (s : List ℕ) (w : Walk) → deepest < w.depth → is_last (visit_of limit deepest s w).answer ≡ true
unfolding visit_of
too_deep limit deepest s w h =
    by_test (λ (v : Visit). is_last v.answer ≡ true) (limits_out limit deepest) (λ _. refl) (λ _. rw (lt-ltb deepest w.depth h))

pub barred_last : (limit deepest : ℕ) (s : List ℕ) (w : Walk) → w.deep ≡ true → is_last (visit_of limit deepest s w).answer ≡ true
unfolding visit_of barred
barred_last limit deepest s w h =
    by_test (λ (v : Visit). is_last v.answer ≡ true) (limits_out limit deepest) (λ _. refl) (λ _.
    by_test (λ (v : Visit). is_last v.answer ≡ true) (ltb deepest w.depth) (λ _. refl)
    (λ _. rw h (by_test (λ (v : Visit). is_last v.answer ≡ true) (outside_of s w.at (end_at w w.depth)) (λ _. refl) (λ _. refl))))

-- the answer of a state, by what the step at its place answers
module _ (limit deepest : ℕ) (s : List ℕ) (w : Walk) (g : limits_out limit deepest ≡ false) (l : w.depth ≤ deepest) (h : w.deep ≡ false) where
  visit_here : (o : Outcome Item) → ((p : ℕ) → o ≡ gives (finish p) → ⊥) → step_here limit s w ≡ o → visit_of limit deepest s w ≡ visit w.depth o
  visit_here o n e = visit_seek limit deepest s w g l h ∙ sym (here limit s w w.depth w.at o n (sym e))

  pub item_here : (o : Outcome Item) → is_last o ≡ false → step_here limit s w ≡ o → visit_of limit deepest s w ≡ visit w.depth o
  item_here o n e = visit_here o (not_last o n) e

  pub refused_here : {number position : ℕ} → step_here limit s w ≡ refuses number position → is_last (visit_of limit deepest s w).answer ≡ true
  refused_here {number} {position} e =
      let v : visit_of limit deepest s w ≡ visit w.depth (refuses number position) = visit_here (refuses number position) (λ p q. absurd (let z : ◌≡◌ {A = ℕ} 0 1 = cc in omega arith)) e in
      ap (λ (x : Visit). is_last x.answer) v

  -- the stream's end is the map's
  pub end_here : {p : ℕ} → w.depth ≡ 0 → step_here limit s w ≡ gives (finish p) → is_last (visit_of limit deepest s w).answer ≡ true
  end_here {p} z e =
      let v : visit_of limit deepest s w ≡ visit w.depth (gives (finish p)) = visit_seek limit deepest s w g l h ∙ sym (in_stream limit s w w.depth w.at (gives (finish p)) z (sym e)) in
      ap (λ (x : Visit). is_last x.answer) v

  -- behind a body its end is a place in the part above, with the same answer
  pub above_here : {p : ℕ} → 1 ≤ w.depth → w.at ≤ end_at w w.depth → end_at w w.depth ≤ length s → step_here limit s w ≡ gives (finish p) → visit_of limit deepest s w ≡ visit_of limit deepest s (moved_to w (w.depth - 1) (end_at w w.depth) false)
  above_here {p} one low high e =
      let q : p ≡ end_at w w.depth = ends_at (moves limit (rules_at w w.depth) s (end_at w w.depth) high w.at low) e in
      let u = moved_to w (w.depth - 1) (end_at w w.depth) false in
      visit_seek limit deepest s w g l h ∙ sym (above limit s w w.depth w.at (end_at w w.depth) one (ap (λ (x : ℕ). gives (finish x)) (sym q) ∙ sym e)) ∙ sym (visit_seek limit deepest s u g (omega arith) refl ∙ seek_moved limit s w (w.depth - 1) (end_at w w.depth) false (w.depth - 1) (end_at w w.depth))
