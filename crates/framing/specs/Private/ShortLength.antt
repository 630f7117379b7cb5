-- What the private reading of a short value's length answers; callers of the crate need none of this.
-- Assumes nothing.
use Rattle.std.specs.Prelude.{ℕ, ◌+◌, ◌≤◌, ◌≡◌, List, get_or, Option, Some, None}
use Rattle.numbers.specs.ShortVarUInt.{short_bytes}
use Rattle.numbers.specs.Descriptor.{descriptor_of}
use Rattle.framing.specs.Answers.{fitting, value_without_annotations}
use Rattle.framing.specs.ShortValue.{no_short_value, short_value_of}
use Rattle.framing.specs.declared.encoded_value.Length.{Length}

-- the value at `at` has this length, tested but for whether it fits, and its body is to begin near its descriptor
pub record KnownLength (s : List ℕ) (at end body size : ℕ) : Type 0 where
  pub ends : body ≤ end
  pub near : body ≤ at + 1 + short_bytes
  pub reads : value_without_annotations s at end (descriptor_of (get_or s at 0)) ≡ fitting at end (get_or s at 0) (record { body = body; size = size })

-- or no short value without a wrapper stands there
abbrev pub ShortLengthAt : List ℕ → ℕ → ℕ → Option Length → Type 0
ShortLengthAt s at end (Some l) = KnownLength s at end l.body l.size
ShortLengthAt s at end None = short_value_of at (value_without_annotations s at end (descriptor_of (get_or s at 0))) ≡ no_short_value
