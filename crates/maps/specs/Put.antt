-- Where a step whose record was put leaves its caller.
-- Assumes nothing.
use Rattle.std.specs.Prelude.{ℕ, List}
use Rattle.std.specs.declared.ops.ControlFlow.{ControlFlow}
use Rattle.std.specs.declared.ops.ControlFlow.TheVariants.{Continue, Break}
use Rattle.numbers.specs.Outcome.{Outcome}
use Rattle.stepping.specs.Items.{Item}
use Rattle.stepping.specs.Leaving.{left_of, on_left}
use Rattle.records.specs.Buffer.{returned_by}
use Rattle.records.specs.Words.{words}

-- behind an item at its end; behind the end and a refusal nowhere, with the number that the call returns that puts the record into `old`
abbrev pub put_by : Outcome Item → List ℕ → ControlFlow ℕ ℕ
put_by o old = on_left (left_of o) (Break (returned_by (words o) old)) (λ e. Continue e)
