-- What value a step's answer is. `Valued.value_stepped` in `proofs/` says that this makes `read_value`.
-- Assumes nothing.
use Rattle.std.specs.Prelude.{ℕ}
use Rattle.numbers.specs.Outcome.{Outcome, gives, refuses}
use Rattle.framing.specs.Spans.{Spans}
use Rattle.stepping.specs.Items.{Item, finish, marker, value, field}

-- the value that a step's answer is: 22 where it is none
abbrev pub value_from : ℕ → Outcome Item → Outcome Spans
value_from at (gives (finish p)) = refuses 22 at
value_from at (gives (marker a major minor e)) = refuses 22 at
value_from at (gives (value v)) = gives v
value_from at (gives (field id a v)) = refuses 22 at
value_from at (refuses number position) = refuses number position
