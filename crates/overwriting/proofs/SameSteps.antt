-- Two maps stepped alike: where each step answers the same, and what is made of an item is the same, so is the whole; and what holds of each turn's answer holds
-- of it.
-- Assumes nothing.
use Prim.Native.Nat.{ℕ, zero, suc, ◌-◌}
use mathlib.Core.Path.{◌≡◌, refl, subst}
use mathlib.Core.Bool.{Bool, true, false}
use mathlib.Core.List.{List}
use Rattle.numbers.specs.Outcome.{Outcome, gives, refuses, pick}
use Rattle.numbers.proofs.Outcomes.{Each, refused}
use Rattle.stepping.specs.Items.{Item}
use Rattle.stepping.specs.Answers.{answer_at}
use Rattle.stepping.specs.declared.cursor.Rules.{Rules}
use Rattle.symbols.specs.Turns.{Turn, over, further, turned, meets, step_until, step_all}

-- two turns that are one: with an answer of which P holds, or on to a place of which I holds with what is kept, of which Q holds
pub data Alike {A R : Type 0} (I : ℕ → Type 0) (Q : A → Type 0) (P : R → Type 0) : Turn A R → Turn A R → Type 0 where
  both_over : {o : Outcome R} → Each P o → Alike I Q P (over o) (over o)
  both_further : {e : ℕ} {a : A} → I e → Q a → Alike I Q P (further e a) (further e a)

pub alike_pick : {A R : Type 0} {I : ℕ → Type 0} {Q : A → Type 0} {P : R → Type 0} (t : Bool) {x x' y y' : Turn A R} → (t ≡ true → Alike I Q P x x') → (t ≡ false → Alike I Q P y y') → Alike I Q P (pick t x y) (pick t x' y')
alike_pick true f g = f refl
alike_pick false f g = g refl

pub alike_over : {A R : Type 0} {I : ℕ → Type 0} {Q : A → Type 0} {P : R → Type 0} {o o' : Outcome R} → o ≡ o' → Each P o → Alike I Q P (over o) (over o')
alike_over {I = I} {Q} {P} {o} q h = subst (λ x. Alike I Q P (over o) (over x)) q (both_over h)

module _ {A R : Type 0} (limit : ℕ) (rules : Rules) (s s' : List ℕ) (hi : ℕ) (meet meet' : A → Item → Turn A R) (I : ℕ → Type 0) (Q : A → Type 0) (P : R → Type 0) (answers : (at : ℕ) → I at → answer_at limit rules s at hi ≡ answer_at limit rules s' at hi) (turns : (at : ℕ) (a : A) (i : Item) → I at → Q a → answer_at limit rules s at hi ≡ gives i → Alike I Q P (meet a i) (meet' a i)) where
  abbrev Alike-answers : (ℕ → A → Outcome R) → (ℕ → A → Outcome R) → ℕ → A → Type 0
  Alike-answers go go' at a = (go at a ≡ go' at a) × Each P (go at a)

  turned_same : {t t' : Turn A R} {go go' : ℕ → A → Outcome R} → Alike I Q P t t' → ((e : ℕ) (a : A) → I e → Q a → Alike-answers go go' e a) → (turned go t ≡ turned go' t') × Each P (turned go t)
  turned_same (both_over h) f = (refl, h)
  turned_same (both_further {e} {a} i q) f = f e a i q

  meets_same : (at : ℕ) (a : A) (o : Outcome Item) → I at → Q a → answer_at limit rules s at hi ≡ o → Alike I Q P (meets meet a o) (meets meet' a o)
  meets_same at a (gives i) j q h = turns at a i j q h
  meets_same at a (refuses n p) j q h = both_over refused

  until_same : (k at : ℕ) (a : A) → I at → Q a → Alike-answers (step_until limit rules s hi meet k) (step_until limit rules s' hi meet' k) at a
  unfolding step_until
  until_same zero at a i q = (refl, refused)
  until_same (suc k) at a i q =
      rw (← answers at i) (turned_same (meets_same at a (answer_at limit rules s at hi) i q refl) (λ e b j r. until_same k e b j r))

  pub all_same : (at : ℕ) (a : A) → I at → Q a → (step_all limit rules s meet at hi a ≡ step_all limit rules s' meet' at hi a) × Each P (step_all limit rules s meet at hi a)
  unfolding step_all
  all_same at a i q = until_same (suc (hi - at)) at a i q
