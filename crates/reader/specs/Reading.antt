-- What a reader of a part answers.
-- Assumes nothing.
use Rattle.std.specs.Prelude.{ℕ, List, ltb}
use Rattle.numbers.specs.Outcome.{refuses, pick}
use Rattle.framing.specs.Limits.{out_of_range}
use Rattle.stepping.specs.Answers.{Stepped, step_of}
use Rattle.stepping.specs.Runs.{cursor}
use Rattle.stepping.specs.Kinds.{rules_of}

-- the step by the part's kind; 68 for a limit outside its range and then 50 for a kind above 2, and the cursor stays
unfoldable pub step_through : ℕ → List ℕ → ℕ → ℕ → ℕ → Stepped
step_through limit s at end kind =
    pick (out_of_range limit) (record { answer = refuses 68 0; next = cursor at end })
    (pick (ltb 2 kind) (record { answer = refuses 50 0; next = cursor at end }) (step_of limit (rules_of kind) s (cursor at end)))
