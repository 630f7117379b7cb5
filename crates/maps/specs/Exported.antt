-- What the exported step answers.
-- Assumes nothing.
use Rattle.std.specs.Prelude.{ℕ, List, ltb}
use Rattle.numbers.specs.Outcome.{Outcome, refuse_if}
use Rattle.framing.specs.Limits.{limited}
use Rattle.stepping.specs.Items.{Item}
use Rattle.stepping.specs.Answers.{answer_at}
use Rattle.stepping.specs.Kinds.{rules_of}

-- "Exported steps take slice, body start, body end, position" and the part's kind. 50: "parts or positions outside the slice, out of order, a part kind above
-- 2"; what start, the position and the kind do not settle of it, the step says. By the change request A.9 68 comes before 50.
unfoldable pub exported_step : ℕ → List ℕ → ℕ → ℕ → ℕ → ℕ → Outcome Item
exported_step limit s start end position kind =
    limited limit (refuse_if (ltb position start) 50 0 (refuse_if (ltb 2 kind) 50 0 (answer_at limit (rules_of kind) s position end)))
