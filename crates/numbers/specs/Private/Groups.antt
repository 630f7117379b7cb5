-- What the private readings of a number's first bytes and of its later bytes answer; callers of the crate need none of this.
-- Assumes nothing.
use Rattle.std.specs.Prelude.{ℕ, ◌+◌, ◌-◌, ◌*◌, ◌^◌, ◌≤◌, ◌<◌, ◌≡◌, List, length, ltb, eqb, Result, Ok, Err}
use Rattle.std.specs.declared.ops.ControlFlow.{ControlFlow}
use Rattle.std.specs.declared.ops.ControlFlow.TheVariants.{Continue, Break}
use Rattle.numbers.specs.Format.{var_uint_of}
use Rattle.numbers.specs.Outcome.{Outcome, gives, refuse_if}
use Rattle.numbers.specs.Bytes.{part}
use Rattle.numbers.specs.Answers.{Unsigned, last_byte, most_bytes, var_uint}
use Rattle.numbers.specs.Read.{unsigned_read, refusal_read}
use Rattle.numbers.specs.ShortVarUInt.{short, none, short_var_uint_of}
use Rattle.numbers.specs.declared.refusal.Refusal.{Refusal}
use Rattle.numbers.specs.declared.var_uint.VarUInt.{VarUInt}

-- the digits worth v, with those of the bytes after them
unfoldable pub followed_by : ℕ → List ℕ → ℕ
followed_by v bs = v * 128 ^ length bs + var_uint_of bs

-- a number that began at `from`, whose bytes before `at` are worth v
unfoldable pub groups : ℕ → ℕ → List ℕ → ℕ → ℕ → ℕ → Outcome Unsigned
groups cut v s from at end =
    refuse_if (eqb (last_byte s at end) end) cut end
    (refuse_if (ltb most_bytes (last_byte s at end + 1 - from)) 20 from
    (gives (record { value = followed_by v (part s at (last_byte s at end + 1)); next = last_byte s at end + 1 })))

-- a VarUInt that goes on at `next`: its bytes before that are worth v, none of them is its last, and it is no short one
pub record GoesOn (s : List ℕ) (at end v next : ℕ) : Type 0 where
  pub begins : at ≤ next
  pub ends : next ≤ end
  pub within : end ≤ length s
  pub small : v < 128 ^ (next - at)
  pub rest : var_uint s at end ≡ groups 3 v s at next end
  pub long : short_var_uint_of at (var_uint s at end) ≡ none

-- what its first bytes, three at most, tell: they are all of it, or it goes on, or no part of the slice was asked for
abbrev pub Begins : List ℕ → ℕ → ℕ → Result (ControlFlow VarUInt VarUInt) Refusal → Type 0
Begins s at end (Ok (Break n)) = short_var_uint_of at (var_uint s at end) ≡ short (unsigned_read n)
Begins s at end (Ok (Continue n)) = GoesOn s at end n.value n.next
Begins s at end (Err e) = (var_uint s at end ≡ refusal_read e) × (short_var_uint_of at (var_uint s at end) ≡ none)
