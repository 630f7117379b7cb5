-- What the answer to writing says in the papers' terms: how many bytes were written, or why nothing was.
-- Assumes nothing.
use Rattle.std.specs.Prelude.{ℕ, Result}
use Rattle.numbers.specs.Outcome.{Outcome}
use Rattle.numbers.specs.Read.{outcome}
use Rattle.numbers.specs.declared.refusal.Refusal.{Refusal}

abbrev pub written_read : Result ℕ Refusal → Outcome ℕ
written_read = outcome (λ n. n)
