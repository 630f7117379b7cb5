-- The rules of a part by its depth, and an answer as it is read.
-- Assumes nothing.
use Rattle.std.specs.Prelude.{ℕ, Bool, eqb}
use Rattle.numbers.specs.Outcome.{pick}
use Rattle.stepping.specs.Read.{item_read}
use Rattle.stepping.specs.declared.cursor.Rules.{Rules}
use Rattle.stepping.specs.declared.cursor.Rules.TheVariants.{Stream, Sequence, Fields}
use Rattle.walking.specs.Walk.{Visit}
use Rattle.walking.specs.Calls.{moved_to}
use Rattle.walking.specs.declared.walk.Place.{Place}
use Rattle.walking.specs.declared.walk.Seen.{Seen}
use Rattle.walking.specs.declared.walk.Walk.{Walk}

-- the rules of a part: a stream at depth 0, else of fields or of a sequence
abbrev pub rules_by : ℕ → Bool → Rules
rules_by d fields = pick (eqb d 0) Stream (pick fields Fields Sequence)

abbrev pub seen_read : Seen → Visit
seen_read r = record { depth = r.depth; answer = item_read r.item }

-- a state at another place
abbrev pub state_at : Walk → Place → Walk
state_at w p = moved_to w p.depth p.at p.deep
