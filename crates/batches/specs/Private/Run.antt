-- A run of steps by their rules.
-- Assumes nothing.
use Rattle.std.specs.Prelude.{ℕ, zero, suc, List, [], ◌∷◌}
use Rattle.numbers.specs.Outcome.{Outcome}
use Rattle.stepping.specs.Items.{Item}
use Rattle.stepping.specs.Answers.{answer_at}
use Rattle.stepping.specs.Leaving.{left_of, on_left}
use Rattle.stepping.specs.declared.cursor.Rules.{Rules}

-- the answers of n steps, each from where the one before left its caller, up to the end or a refusal
unfoldable pub step_run : ℕ → ℕ → Rules → List ℕ → ℕ → ℕ → List (Outcome Item)
step_run limit zero rules s at end = []
step_run limit (suc n) rules s at end =
    answer_at limit rules s at end ∷ on_left (left_of (answer_at limit rules s at end)) [] (λ e. step_run limit n rules s e end)
