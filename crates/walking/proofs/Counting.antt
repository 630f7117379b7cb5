-- The items among the answers of calls, one call at a time; and the state behind an item.
-- Assumes nothing.
use Prim.Native.Nat.{ℕ, zero, suc, ◌≤◌}
use native.Mathlib.Omega.{arith}
use borrow.Author.Tests.{eqb-false}
use mathlib.Core.Path.{◌≡◌, refl, ◌∙◌, sym, ap}
use mathlib.Core.Bool.{Bool, true, false, true≢false}
use mathlib.Core.List.{List}
use lib.Dec.{eqb}
use Rattle.numbers.specs.Outcome.{Outcome, gives, refuses}
use Rattle.numbers.proofs.Outcomes.{by_test, by_case}
use Rattle.framing.specs.Spans.{Spans}
use Rattle.stepping.specs.Items.{Item, finish, marker, value, field}
use Rattle.stepping.specs.Leaving.{is_last}
use Rattle.stepping.specs.Names.{item_by}
use Rattle.stepping.specs.declared.cursor.Rules.{Rules}
use Rattle.stepping.specs.declared.cursor.Rules.TheVariants.{Stream, Sequence, Fields}
use Rattle.values.specs.Scalars.{is_container}
use Rattle.walking.specs.Walk.{Visit, visit}
use Rattle.walking.specs.Calls.{moved_to, state_after_value, state_after_answer, state_after_visit, visit_of, calls, items_in}
use Rattle.walking.specs.declared.walk.Walk.{Walk}

module _ (limit deepest : ℕ) (s : List ℕ) (w : Walk) where
  pub none_called : {n : ℕ} → n ≡ 0 → items_in (calls limit deepest n s w) ≡ 0
  unfolding calls
  none_called q = rw q

  pub last_called : is_last (visit_of limit deepest s w).answer ≡ true → (n : ℕ) → items_in (calls limit deepest n s w) ≡ 0
  unfolding calls
  last_called h zero = refl
  last_called h (suc n) = rw h

  pub one_called : {v : Visit} {n m : ℕ} → visit_of limit deepest s w ≡ v → is_last v.answer ≡ false → n ≡ suc m → items_in (calls limit deepest n s w) ≡ suc (items_in (calls limit deepest m s (state_after_visit deepest w v)))
  unfolding calls
  one_called e h q = rw (q, e, h)

-- behind an item the state's own place is no matter
pub after_moved : (deepest : ℕ) (w : Walk) (k from : ℕ) (deep : Bool) (d : ℕ) (o : Outcome Item) → is_last o ≡ false → state_after_answer deepest w d o ≡ state_after_answer deepest (moved_to w k from deep) d o
unfolding state_after_value
after_moved deepest w k from deep d (gives (finish p)) h = absurd (true≢false h)
after_moved deepest w k from deep d (gives (marker a x y e)) h = refl
after_moved deepest w k from deep d (gives (value v)) h = refl
after_moved deepest w k from deep d (gives (field id a v)) h = refl
after_moved deepest w k from deep d (refuses number position) h = absurd (true≢false h)

-- two places with one answer have the same calls
pub same_called : (limit deepest : ℕ) (s : List ℕ) (w : Walk) (k from : ℕ) (deep : Bool) → visit_of limit deepest s w ≡ visit_of limit deepest s (moved_to w k from deep) → (n : ℕ) → items_in (calls limit deepest n s w) ≡ items_in (calls limit deepest n s (moved_to w k from deep))
unfolding calls
same_called limit deepest s w k from deep e zero = refl
same_called limit deepest s w k from deep e (suc n) =
    let u = moved_to w k from deep in
    let v = visit_of limit deepest s u in
    by_case (is_last v.answer)
    (λ h. last_called limit deepest s w (ap (λ (x : Visit). is_last x.answer) e ∙ h) (suc n) ∙ sym (last_called limit deepest s u h (suc n)))
    (λ h.
    one_called limit deepest s w {m = n} e h refl
    ∙ ap (λ (x : Walk). suc (items_in (calls limit deepest n s x))) (after_moved deepest w k from deep v.depth v.answer h)
    ∙ sym (one_called limit deepest s u {m = n} refl h refl))

-- a value behind a name is an item, and the state behind it is the one behind the value
pub named_item : (rules : Rules) (at id : ℕ) (v : Spans) → is_last (gives (item_by rules at id v)) ≡ false
named_item Stream at id v = refl
named_item Sequence at id v = refl
named_item Fields at id v = refl

pub after_named : (deepest : ℕ) (w : Walk) (d : ℕ) (rules : Rules) (at id : ℕ) (v : Spans) → state_after_visit deepest w (visit d (gives (item_by rules at id v))) ≡ state_after_value deepest w d v
after_named deepest w d Stream at id v = refl
after_named deepest w d Sequence at id v = refl
after_named deepest w d Fields at id v = refl

-- no state behind an item is deeper than the deepest part
after_value_depth : (deepest : ℕ) (w : Walk) (d : ℕ) (v : Spans) → d ≤ deepest → (state_after_value deepest w d v).depth ≤ deepest
unfolding state_after_value
after_value_depth deepest w d v l =
    by_test (λ (x : Walk). x.depth ≤ deepest) (is_container v)
    (λ _. by_test (λ (x : Walk). x.depth ≤ deepest) (eqb d deepest) (λ _. l) (λ e. omega (arith, eqb-false d deepest e)))
    (λ _. l)

pub after_depth : (deepest : ℕ) (w : Walk) (d : ℕ) (o : Outcome Item) → is_last o ≡ false → d ≤ deepest → (state_after_visit deepest w (visit d o)).depth ≤ deepest
after_depth deepest w d (gives (finish p)) h l = absurd (true≢false h)
after_depth deepest w d (gives (marker a x y e)) h l = l
after_depth deepest w d (gives (value v)) h l = after_value_depth deepest w d v l
after_depth deepest w d (gives (field id a v)) h l = after_value_depth deepest w d v l
after_depth deepest w d (refuses number position) h l = absurd (true≢false h)
