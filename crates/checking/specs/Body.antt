-- A body by itself: "a body by checking its values", as `specs/Check.antt` has it of the bodies in a map, and how much deeper its containers may be.
-- Assumes nothing.
use Rattle.std.specs.Prelude.{ℕ, List, length}
use Rattle.numbers.specs.Outcome.{Outcome, and_then}
use Rattle.framing.specs.Limits.{limited}
use Rattle.stepping.specs.declared.cursor.Rules.{Rules}
use Rattle.checking.specs.Counts.{none}
use Rattle.checking.specs.Reading.{Done, as_done}
use Rattle.checking.specs.Check.{part_check}

-- the first refusal that checking it meets, its positions in the body
unfoldable pub body_check : ℕ → ℕ → Rules → List ℕ → Outcome Done
body_check limit room rules body =
    and_then (part_check limit (length body) body rules room (length body) 0 none) as_done

-- 68 for a limit that is none, before all else
unfoldable pub limited_body : ℕ → ℕ → Rules → List ℕ → Outcome Done
limited_body limit room rules body = limited limit (body_check limit room rules body)
