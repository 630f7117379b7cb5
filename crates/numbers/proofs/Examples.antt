-- The number readings among the scope paper's "Maps at the edges", each list of them checked by one computation over the definitions.
-- Assumes nothing.
use Prim.Native.Nat.{ℕ}
use mathlib.Core.Path.{◌≡◌, refl}
use mathlib.Core.Bool.{true}
use mathlib.Core.List.{List, [], ◌∷◌, map}
use lib.ListN.{length}
use Rattle.numbers.specs.Format.{of_digits, var_uint_of, var_int_negative, var_int_magnitude}
use Rattle.numbers.specs.Outcome.{Outcome, gives, refuses, outside_of}
use Rattle.numbers.specs.Answers.{Unsigned, Signed, last_among, last_byte, var_number, var_uint, var_int}

-- a whole slice read as a VarUInt, and as a VarInt
abbrev whole_var_uint : List ℕ → Outcome Unsigned
whole_var_uint s = var_uint s 0 (length s)

abbrev whole_var_int : List ℕ → Outcome Signed
whole_var_int s = var_int s 0 (length s)

-- 7F eight times, FF: 2^63 - 1. 00 nine times, 80: 20. 00 ten times: 3 at 10.
pub var_uint_edges :
    map whole_var_uint ((127 ∷ 127 ∷ 127 ∷ 127 ∷ 127 ∷ 127 ∷ 127 ∷ 127 ∷ 255 ∷ []) ∷ (0 ∷ 0 ∷ 0 ∷ 0 ∷ 0 ∷ 0 ∷ 0 ∷ 0 ∷ 0 ∷ 128 ∷ []) ∷ (0 ∷ 0 ∷ 0 ∷ 0 ∷ 0 ∷ 0 ∷ 0 ∷ 0 ∷ 0 ∷ 0 ∷ []) ∷ [])
    ≡ gives (record { value = 9223372036854775807; next = 9 }) ∷ refuses 20 0 ∷ refuses 3 10 ∷ []
unfolding var_uint var_number last_byte last_among var_uint_of of_digits outside_of
var_uint_edges = refl

-- C0: negative zero. 40 81: -1.
pub var_int_edges :
    map whole_var_int ((192 ∷ []) ∷ (64 ∷ 129 ∷ []) ∷ [])
    ≡ gives (record { negative = true; magnitude = 0; next = 1 }) ∷ gives (record { negative = true; magnitude = 1; next = 2 }) ∷ []
unfolding var_int var_number last_byte last_among var_int_negative var_int_magnitude of_digits outside_of
var_int_edges = refl
