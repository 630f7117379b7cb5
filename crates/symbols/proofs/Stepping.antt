-- Stepping a part until it is over: a step on, the last step, more steps than enough, and what holds of every answer. Each item has a byte, so that the next
-- step begins further on.
-- Assumes nothing.
use Prim.Native.Nat.{ℕ, zero, suc, ◌-◌, ◌≤◌, ◌<◌}
use native.Mathlib.Omega.{arith}
use mathlib.Core.Path.{◌≡◌, refl, ◌∙◌}
use mathlib.Core.Bool.{false, true≢false}
use mathlib.Core.List.{List}
use Rattle.numbers.specs.Outcome.{Outcome, gives, refuses}
use Rattle.numbers.proofs.Outcomes.{Each, refused as each-refused}
use Rattle.stepping.specs.Items.{Item, finish, item_end}
use Rattle.stepping.specs.Answers.{answer_at}
use Rattle.stepping.specs.Leaving.{is_last}
use Rattle.stepping.specs.declared.cursor.Rules.{Rules}
use Rattle.symbols.specs.Turns.{Turn, over, further, turned, meets, step_until, step_all}
use Rattle.symbols.proofs.Answered.{Met, ended, a_marker, a_value, a_field, refused, met}

-- where an item leads: nowhere, or to its own end, and not behind the end of a part
pub data Leads {A R : Type 0} (i : Item) : Turn A R → Type 0 where
  stops : {o : Outcome R} → Leads i (over o)
  goes : {a : A} → is_last (gives i) ≡ false → Leads i (further (item_end i) a)

abbrev pub Follows : {A R : Type 0} → (A → Item → Turn A R) → Type 0
Follows {A} {R} meet = (a : A) (i : Item) → Leads i (meet a i)

-- from `at` a turn is over, or goes further on in the part
pub data Onward {A R : Type 0} (at end : ℕ) : Turn A R → Type 0 where
  halts : {o : Outcome R} → Onward at end (over o)
  moves : {e : ℕ} {a : A} → at < e → e ≤ end → Onward at end (further e a)

led : {A R : Type 0} {at end : ℕ} {i : Item} {t : Turn A R} → at < item_end i → item_end i ≤ end → Leads i t → Onward at end t
led l m stops = halts
led l m (goes _) = moves l m

led_nowhere : {A R : Type 0} {at end p : ℕ} {t : Turn A R} → Leads (finish p) t → Onward at end t
led_nowhere stops = halts
led_nowhere (goes h) = absurd (true≢false h)

onward_by : {A R : Type 0} (meet : A → Item → Turn A R) → Follows meet → {s : List ℕ} {at end : ℕ} {o : Outcome Item} (a : A) → Met s at end o → Onward at end (meets meet a o)
onward_by meet f a (ended _) = led_nowhere (f a (finish _))
onward_by meet f a (a_marker l m n) = led (omega arith) n (f a _)
onward_by meet f a (a_value v) = led (omega (arith, v.starts, v.header, v.order)) v.fits (f a _)
onward_by meet f a (a_field _ v) = led (omega (arith, v.starts, v.header, v.order)) v.fits (f a _)
onward_by meet f a refused = halts

onward_to : {A R : Type 0} {at end e : ℕ} {a : A} {t : Turn A R} → Onward at end t → t ≡ further e a → (at < e) × (e ≤ end)
onward_to halts q = absurd (let z : ◌≡◌ {A = ℕ} 0 1 = cc in omega arith)
onward_to {e = e} (moves {e = e'} l m) q = let h : e' ≡ e = cc in (omega arith, omega arith)

module _ {A R : Type 0} (limit : ℕ) (rules : Rules) (s : List ℕ) (end : ℕ) (meet : A → Item → Turn A R) (f : Follows meet) where
  turn : (at : ℕ) (a : A) → Onward at end (meets meet a (answer_at limit rules s at end))
  turn at a = onward_by meet f a (met limit rules s at end)

  turn_same : {at : ℕ} {t : Turn A R} {go go' : ℕ → A → Outcome R} → Onward at end t → ((e : ℕ) (a : A) → at < e → e ≤ end → go e a ≡ go' e a) → turned go t ≡ turned go' t
  turn_same halts h = refl
  turn_same (moves {e} {a} l m) h = h e a l m

  pub same_fuel : (k k' at : ℕ) (a : A) → end - at < k → end - at < k' → step_until limit rules s end meet k at a ≡ step_until limit rules s end meet k' at a
  unfolding step_until
  same_fuel zero k' at a h h' = absurd (omega arith)
  same_fuel (suc k) zero at a h h' = absurd (omega arith)
  same_fuel (suc k) (suc k') at a h h' = turn_same (turn at a) (λ e b l m. same_fuel k k' e b (omega arith) (omega arith))

  pub enough : (k at : ℕ) (a : A) → end - at < k → step_until limit rules s end meet k at a ≡ step_all limit rules s meet at end a
  unfolding step_all
  enough k at a h = same_fuel k (suc (end - at)) at a h (omega arith)

  pub steps_over : (at : ℕ) (a : A) (o : Outcome R) → meets meet a (answer_at limit rules s at end) ≡ over o → step_all limit rules s meet at end a ≡ o
  unfolding step_all step_until
  steps_over at a o q = rw q

  pub further_on : (at : ℕ) (a : A) (e : ℕ) (b : A) → meets meet a (answer_at limit rules s at end) ≡ further e b → (at < e) × (e ≤ end)
  further_on at a e b q = onward_to (turn at a) q

  unrolled : (at : ℕ) (a : A) (e : ℕ) (b : A) → meets meet a (answer_at limit rules s at end) ≡ further e b → step_all limit rules s meet at end a ≡ step_until limit rules s end meet (end - at) e b
  unfolding step_all step_until
  unrolled at a e b q = rw q

  pub steps_further : (at : ℕ) (a : A) (e : ℕ) (b : A) → meets meet a (answer_at limit rules s at end) ≡ further e b → step_all limit rules s meet at end a ≡ step_all limit rules s meet e end b
  steps_further at a e b q = let p = further_on at a e b q in unrolled at a e b q ∙ enough (end - at) e b (omega arith)

  -- what one step makes of the rest
  pub one_step : (at : ℕ) (a : A) → step_all limit rules s meet at end a ≡ turned (λ e b. step_all limit rules s meet e end b) (meets meet a (answer_at limit rules s at end))
  one_step at a = go (meets meet a (answer_at limit rules s at end)) refl
    where
      go : (t : Turn A R) → meets meet a (answer_at limit rules s at end) ≡ t → step_all limit rules s meet at end a ≡ turned (λ e b. step_all limit rules s meet e end b) t
      go (over o) q = steps_over at a o q
      go (further e b) q = steps_further at a e b q

-- what holds of each answer that an item can make, where Q holds of what is kept, holds of the whole
pub data EachTurn {A R : Type 0} (Q : A → Type 0) (P : R → Type 0) : Turn A R → Type 0 where
  each_over : {o : Outcome R} → Each P o → EachTurn Q P (over o)
  each_further : {e : ℕ} {a : A} → Q a → EachTurn Q P (further e a)

abbrev pub EachItem : {A R : Type 0} → (s : List ℕ) → (end : ℕ) → (A → Item → Turn A R) → (A → Type 0) → (R → Type 0) → Type 0
EachItem {A} {R} s end meet Q P = (at : ℕ) (a : A) (i : Item) → Q a → Met s at end (gives i) → EachTurn Q P (meet a i)

module _ {A R : Type 0} (limit : ℕ) (rules : Rules) (s : List ℕ) (end : ℕ) (meet : A → Item → Turn A R) (Q : A → Type 0) (P : R → Type 0) (h : EachItem s end meet Q P) where
  each_meets : (at : ℕ) (a : A) (o : Outcome Item) → Q a → Met s at end o → EachTurn Q P (meets meet a o)
  each_meets at a (gives i) q m = h at a i q m
  each_meets at a (refuses n p) q m = each_over each-refused

  each_turned : {t : Turn A R} {go : ℕ → A → Outcome R} → EachTurn Q P t → ((e : ℕ) (a : A) → Q a → Each P (go e a)) → Each P (turned go t)
  each_turned (each_over p) g = p
  each_turned (each_further {e} {a} q) g = g e a q

  each_until : (k at : ℕ) (a : A) → Q a → Each P (step_until limit rules s end meet k at a)
  unfolding step_until
  each_until zero at a q = each-refused
  each_until (suc k) at a q = each_turned (each_meets at a (answer_at limit rules s at end) q (met limit rules s at end)) (λ e b r. each_until k e b r)

  pub each_all : (at : ℕ) (a : A) → Q a → Each P (step_all limit rules s meet at end a)
  unfolding step_all
  each_all at a q = each_until (suc (end - at)) at a q
