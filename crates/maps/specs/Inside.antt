-- A position in a part of a map.
-- Assumes nothing.
use Rattle.std.specs.Prelude.{ℕ, Bool, false, List, length, ltb, leb}
use Rattle.numbers.specs.Outcome.{Outcome, gives, refuses, pick}
use Rattle.framing.specs.Limits.{limited}
use Rattle.stepping.specs.Kinds.{rules_of}
use Rattle.stepping.specs.declared.cursor.Rules.{Rules}

-- what 50 tests of an exported step: a position in the part start..end of the slice, and a kind of 2 at most
abbrev pub inside_of : List ℕ → ℕ → ℕ → ℕ → ℕ → Bool
inside_of s start end at kind =
    pick (ltb (length s) end) false (pick (ltb end at) false (pick (ltb at start) false (leb kind 2)))

-- the rules by which an exported step goes, 68 before 50
abbrev pub part_rules : ℕ → List ℕ → ℕ → ℕ → ℕ → ℕ → Outcome Rules
part_rules limit s start end at kind =
    limited limit (pick (inside_of s start end at kind) (gives (rules_of kind)) (refuses 50 0))
