-- A part that is stepped until what a step hands out ends it, with what is kept from one item to the next.
-- Assumes nothing.
use Rattle.std.specs.Prelude.{ℕ, zero, suc, ◌-◌, List}
use Rattle.numbers.specs.Outcome.{Outcome, gives, refuses}
use Rattle.stepping.specs.Items.{Item}
use Rattle.stepping.specs.Answers.{answer_at}
use Rattle.stepping.specs.declared.cursor.Rules.{Rules}

-- what an item makes of what was kept: the answer, or where the next step begins and what is kept then
pub data Turn (A R : Type 0) : Type 0 where
  over : Outcome R → Turn A R
  further : ℕ → A → Turn A R

abbrev pub turned : {A R : Type 0} → (ℕ → A → Outcome R) → Turn A R → Outcome R
turned go (over o) = o
turned go (further at a) = go at a

-- "A refusal met is given"
abbrev pub meets : {A R : Type 0} → (A → Item → Turn A R) → A → Outcome Item → Turn A R
meets meet a (gives i) = meet a i
meets meet a (refuses number position) = over (refuses number position)

-- the part's steps from `at` on, at most k of them: one more than the part has bytes is enough, since each item has one (`Enough`)
unfoldable pub step_until : {A R : Type 0} → ℕ → Rules → List ℕ → ℕ → (A → Item → Turn A R) → ℕ → ℕ → A → Outcome R
step_until limit rules s end meet zero at a = refuses 50 0
step_until limit rules s end meet (suc k) at a = turned (step_until limit rules s end meet k) (meets meet a (answer_at limit rules s at end))

unfoldable pub step_all : {A R : Type 0} → ℕ → Rules → List ℕ → (A → Item → Turn A R) → ℕ → ℕ → A → Outcome R
step_all limit rules s meet at end a = step_until limit rules s end meet (suc (end - at)) at a
