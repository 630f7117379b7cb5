-- A pad's descriptor.
-- Assumes nothing.
use Rattle.std.specs.Prelude.{ℕ, ◌/◌, ◌%◌, Bool}
use Rattle.numbers.specs.Descriptor.{kind_of}
use Rattle.framing.specs.Answers.{is_pad}

unfoldable pub begins_pad : ℕ → Bool
begins_pad byte = is_pad (kind_of (byte / 16) (byte % 16))
