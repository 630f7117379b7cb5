-- What each answer of a reading says in the scope paper's terms: its values, or its refusal's number and position.
-- Assumes nothing.
use Rattle.numbers.specs.Outcome.{Outcome, gives, refuses}
use Rattle.std.specs.Prelude.{Option, Some, None, Result, Ok, Err}
use Rattle.numbers.specs.Answers.{Unsigned, Signed, Fixed}
use Rattle.numbers.specs.ShortVarUInt.{ShortUnsigned, short, none}
use Rattle.numbers.specs.Refusals.{number_of}
use Rattle.numbers.specs.declared.refusal.Refusal.{Refusal}
use Rattle.numbers.specs.declared.var_uint.VarUInt.{VarUInt}
use Rattle.numbers.specs.declared.var_int.VarInt.{VarInt}
use Rattle.numbers.specs.declared.int.Int.{Int}

abbrev pub refusal_read : {A : Type 0} → Refusal → Outcome A
refusal_read e = refuses (number_of e.reason) e.position

-- an answer, by what its value says
abbrev pub outcome : {A B : Type 0} → (A → B) → Result A Refusal → Outcome B
outcome f (Ok a) = gives (f a)
outcome f (Err e) = refusal_read e

abbrev pub unsigned_read : VarUInt → Unsigned
unsigned_read n = record { value = n.value; next = n.next }

abbrev pub var_uint_read : Result VarUInt Refusal → Outcome Unsigned
var_uint_read = outcome unsigned_read

abbrev pub short_var_uint_read : Option VarUInt → ShortUnsigned
short_var_uint_read (Some n) = short (unsigned_read n)
short_var_uint_read None = none

abbrev pub var_int_read : Result VarInt Refusal → Outcome Signed
var_int_read = outcome (λ n. record { negative = n.negative; magnitude = n.magnitude; next = n.next })

abbrev pub int_read : Result Int Refusal → Outcome Fixed
int_read = outcome (λ i. record { negative = i.negative; first = i.first; rest = i.rest; end = i.end })
