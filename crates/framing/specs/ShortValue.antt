-- A value without a wrapper whose length field has three bytes at most, as most values are. Nothing is said of another: it has a wrapper, a longer length
-- field, or is refused.
-- Assumes nothing.
use Rattle.std.specs.Prelude.{ℕ, ◌+◌, ◌/◌, ◌%◌, Bool, not, eqb, leb}
use Rattle.numbers.specs.Outcome.{Outcome, gives, refuses, pick}
use Rattle.numbers.specs.ShortVarUInt.{short_bytes}
use Rattle.numbers.specs.Descriptor.{kind_of}
use Rattle.framing.specs.Spans.{Spans}
use Rattle.framing.specs.Answers.{no_value}

-- its spans, or nothing
pub data ShortValue : Type 0 where
  short_value : Spans → ShortValue
  no_short_value : ShortValue

-- the spans of a value without a wrapper: its byte, where it stands, and its body
abbrev pub bare_spans : ℕ → ℕ → ℕ → ℕ → Spans
bare_spans byte at body end =
    record { byte = byte; start = at; annotations = at; descriptor = at; body = body; end = end }

-- a byte that begins a value or a null, without a wrapper: such a byte alone can begin a short value
unfoldable pub begins_value : ℕ → Bool
begins_value byte = not (no_value (kind_of (byte / 16) (byte % 16)))

-- what is said, of the reading of the value at `at`: its descriptor stands there, and its body begins after that and three bytes at most
abbrev pub short_value_of : ℕ → Outcome Spans → ShortValue
short_value_of at (gives v) =
    pick (eqb v.descriptor at) (pick (leb v.body (at + 1 + short_bytes)) (short_value v) no_short_value) no_short_value
short_value_of at (refuses number position) = no_short_value
