-- What each answer of this layer says in the papers' terms.
-- Assumes nothing.
use Rattle.std.specs.Prelude.{List, ℕ, Result, Ok, Err}
use Rattle.numbers.specs.Outcome.{Outcome, gives}
use Rattle.numbers.specs.Read.{refusal_read, outcome}
use Rattle.numbers.specs.declared.refusal.Refusal.{Refusal}
use Rattle.checking.specs.Counts.{none}
use Rattle.checking.specs.Answers.{Answer}
use Rattle.checking.specs.Reading.{Done, done}
use Rattle.checking.specs.declared.counts.Counts.{Counts}

abbrev pub done_read : Result (Unit {0}) Refusal → Outcome Done
done_read = outcome (λ u. done)

-- with the counts that it leaves
abbrev pub verdict_read : Result (Unit {0}) Refusal → List ℕ → Outcome (List ℕ)
verdict_read r c = outcome (λ u. c) r

-- "counts zero on a refusal"
abbrev pub checked_read : Result Counts Refusal → Answer
checked_read (Ok c) = record { outcome = gives c.places; counts = c.places }
checked_read (Err e) = record { outcome = refusal_read e; counts = none }
