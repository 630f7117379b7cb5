-- What the answer to packing says in the papers' terms: how many bytes the packed map has, or why there is none.
-- Assumes nothing.
use Rattle.std.specs.Prelude.{ℕ, Result}
use Rattle.numbers.specs.Outcome.{Outcome}
use Rattle.numbers.specs.Read.{outcome}
use Rattle.numbers.specs.declared.refusal.Refusal.{Refusal}

abbrev pub size_read : Result ℕ Refusal → Outcome ℕ
size_read = outcome (λ n. n)
