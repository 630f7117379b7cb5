-- The scope paper's "Record": a part's rules as a number, and back.
-- Assumes nothing.
use Rattle.std.specs.Prelude.{ℕ, eqb}
use Rattle.numbers.specs.Outcome.{pick}
use Rattle.stepping.specs.declared.cursor.Rules.{Rules}
use Rattle.stepping.specs.declared.cursor.Rules.TheVariants.{Stream, Sequence, Fields}

-- "a stream, sequence or struct (0, 1, 2)": the rules of a part of this kind; a kind above 2 is refused before
abbrev pub rules_of : ℕ → Rules
rules_of kind = pick (eqb kind 0) Stream (pick (eqb kind 1) Sequence Fields)

-- the kind of a part with these rules
abbrev pub part_kind : Rules → ℕ
part_kind Stream = 0
part_kind Sequence = 1
part_kind Fields = 2
