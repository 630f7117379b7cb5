-- The whole answer to a check: "counts zero on a refusal" of the exported record.
-- Assumes nothing.
use Rattle.std.specs.Prelude.{ℕ, List}
use Rattle.numbers.specs.Outcome.{Outcome, gives, refuses}
use Rattle.checking.specs.Counts.{none}
use Rattle.checking.specs.Check.{whole_check}

-- the outcome, and the counts that are handed out with it
pub record Answer : Type 0 where
  pub outcome : Outcome (List ℕ)
  pub counts : List ℕ

abbrev pub counts_of : Outcome (List ℕ) → List ℕ
counts_of (gives c) = c
counts_of (refuses number position) = none

abbrev pub answer_of : Outcome (List ℕ) → Answer
answer_of o = record { outcome = o; counts = counts_of o }

abbrev pub check_of : ℕ → ℕ → List ℕ → Answer
check_of limit deepest s = answer_of (whole_check limit deepest s)
