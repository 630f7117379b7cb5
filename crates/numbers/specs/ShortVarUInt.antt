-- A VarUInt of three bytes at most, as most lengths and IDs are (three is no limit of the scope paper). Nothing is said where it has more bytes or is refused.
-- Assumes nothing.
use Rattle.std.specs.Prelude.{ℕ, ◌+◌, leb}
use Rattle.numbers.specs.Outcome.{Outcome, gives, refuses, pick}
use Rattle.numbers.specs.Answers.{Unsigned}

-- the most bytes of a short one
abbrev pub short_bytes : ℕ
short_bytes = 3

pub data ShortUnsigned : Type 0 where
  short : Unsigned → ShortUnsigned
  none : ShortUnsigned

-- what is said, of the reading of the VarUInt at `at`
abbrev pub short_var_uint_of : ℕ → Outcome Unsigned → ShortUnsigned
short_var_uint_of at (gives u) = pick (leb u.next (at + short_bytes)) (short u) none
short_var_uint_of at (refuses number position) = none
