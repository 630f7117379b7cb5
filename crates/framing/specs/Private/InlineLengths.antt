-- What a descriptor tells of its value's length by itself: most values need no more than this to be framed.
-- Assumes nothing.
use Rattle.std.specs.Prelude.{ℕ, zero, suc, ◌+◌, ◌^◌, Bool, true, false, not, ltb, eqb}
use Rattle.numbers.specs.Outcome.{pick}
use Rattle.numbers.specs.Descriptor.{kind_of}
use Rattle.framing.specs.Answers.{no_value, value_code, bad_float, short_timestamp, empty_ordered}

-- "Codes 0 to 13 are the length", "15 is length 0", "Null and bool: length 0 at every code": the length that a descriptor tells, where it tells one
-- (`has_inline_length`); of others it means nothing
unfoldable pub inline_length : ℕ → ℕ → ℕ
inline_length type code = pick (ltb type 2) 0 (pick (eqb code 15) 0 code)

-- whether a descriptor tells its value's length by itself: it begins a value, no VarUInt is read ("14 reads a VarUInt", "Struct code 1 (ordered) reads a
-- VarUInt"), and 30 and 31 do not refuse it; no byte has a length code above 15
unfoldable pub has_inline_length : ℕ → ℕ → Bool
has_inline_length type code =
    pick (ltb 15 code) false
    (pick (no_value (kind_of type code)) false
    (pick (eqb (value_code type code) 14) false
    (pick (bad_float type code) false (not (short_timestamp type code (inline_length type code))))))

-- an ordered struct, "Struct code 1"
unfoldable pub is_ordered : ℕ → ℕ → Bool
is_ordered type code = pick (eqb type 13) (eqb code 1) false

-- whether a VarUInt behind a value's descriptor says its length ("14 reads a VarUInt", "Struct code 1 (ordered) reads a VarUInt"), and 30 does not refuse it
unfoldable pub has_length_field : ℕ → ℕ → Bool
has_length_field type code =
    pick (eqb (value_code type code) 14) (pick (ltb 13 type) false (not (bad_float type code))) false

-- 31 or 32 refuses a length
unfoldable pub too_short : ℕ → ℕ → ℕ → Bool
too_short type code size = pick (short_timestamp type code size) true (empty_ordered type code size)

-- a number with a bit for each place below n where a test holds
abbrev pub bits : ℕ → (ℕ → Bool) → ℕ
bits zero p = 0
bits (suc n) p = pick (p n) (2 ^ n) 0 + bits n p

-- the length codes of a type code that tell a length, a bit for each
unfoldable pub inline_codes : ℕ → ℕ
inline_codes type = bits 16 (has_inline_length type)
