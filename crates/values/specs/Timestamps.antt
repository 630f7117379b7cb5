-- The change request A.4: what the entry on a value answers that reads timestamps.
-- Assumes nothing.
use Rattle.std.specs.Prelude.{ℕ, Bool, false, List, eqb}
use Rattle.numbers.specs.Outcome.{Outcome, gives, pick, and_then}
use Rattle.framing.specs.Spans.{Spans}
use Rattle.timestamps.specs.Timestamp.{timestamp}
use Rattle.timestamps.specs.declared.timestamp.Stamp.{Stamp}
use Rattle.values.specs.Scalars.{value_in, type_of, code_of, Scalar, scalar_of}

-- a timestamp, with its descriptor's position, or the spans and the scalar of another value
pub data Dated : Type 0 where
  stamped : ℕ → Stamp → Dated
  other : Spans → Scalar → Dated

abbrev pub stamped_at : ℕ → Stamp → Outcome Dated
stamped_at descriptor t = gives (stamped descriptor t)

abbrev pub other_of : Spans → Scalar → Outcome Dated
other_of v x = gives (other v x)

-- a timestamp that is no null
unfoldable pub is_timestamp : Spans → Bool
is_timestamp v = pick (eqb (code_of v) 15) false (eqb (type_of v) 6)

-- "A null or another type answers as its scalar"; 61 to 63 of a timestamp are at its own descriptor, whatever annotates it
unfoldable pub timestamp_of : List ℕ → Spans → Outcome Dated
timestamp_of s v =
    pick (is_timestamp v)
    (and_then (timestamp v.descriptor s v.body v.end) (stamped_at v.descriptor))
    (and_then (scalar_of s v) (other_of v))

unfoldable pub read_timestamp : ℕ → List ℕ → ℕ → ℕ → ℕ → Outcome Dated
read_timestamp limit s start end at = and_then (value_in limit s start end at) (timestamp_of s)
