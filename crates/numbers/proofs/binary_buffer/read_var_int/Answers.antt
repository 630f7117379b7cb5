-- `read_var_int` meets its contract: the first byte has the sign and six bits, and `read_groups` reads the rest.
use Prim.Native.Nat.{◌+◌, ◌-◌}
use native.Mathlib.Omega.{arith}
use borrow.Author.Tests.{eq-eqb}
use mathlib.Core.Path.{◌≡◌, refl, ◌∙◌, sym}
use lib.ListN.{get_or}
use Rattle.numbers.specs.Outcome.{and_then}
use Rattle.numbers.specs.Answers.{var_int, var_number, last_byte}
use Rattle.numbers.specs.Read.{var_uint_read}
use Rattle.std.specs.Prelude.{Result}
use Rattle.numbers.specs.declared.var_uint.VarUInt.{VarUInt}
use Rattle.numbers.specs.declared.refusal.Refusal.{Refusal}
use Rattle.numbers.proofs.Passing.{passed_on}
use Rattle.numbers.proofs.Outcomes.{in_part}
use Rattle.numbers.proofs.LastByte.{last_none}
use Rattle.numbers.proofs.Grouping.{signed_by, var_int_one, var_int_groups}
use Rattle.numbers.proofs.binary_buffer.read_var_int.Goals as goal
use Rattle.numbers.proofs.binary_buffer.read_var_int.Goals.{After-read_groups, Else-outside}

pub returns-then-at-end : goal.returns-then-at-end
unfolding var_int var_number
returns-then-at-end c =
    let a = c.args in
    let e : last_byte a.s.now a.at a.end ≡ a.end = rw c.if-at-end.true (last_none a.s.now a.end) in
    rw (sym c.outside.ensures ∙ c.if-outside.false, e, eq-eqb a.end a.end refl)

pub bounds-s-at : goal.bounds-s-at
bounds-s-at c = let b = in_part _ _ _ c.outside.ensures c.if-outside.false in omega arith

pub overflow_add-next : goal.overflow_add-next
overflow_add-next c = let b = in_part _ _ _ c.outside.ensures c.if-outside.false in omega arith

pub returns-then-byte-ge128 : goal.returns-then-byte-ge128
returns-then-byte-ge128 c =
    let a = c.args in
    let b = in_part _ _ _ c.outside.ensures c.if-outside.false in
    let e : c.from-byte.result ≡ get_or a.s.now a.at 0 = c.from-byte.ensures in
    rw e (sym (var_int_one a.s.now a.at a.end (omega arith) (omega arith) (omega arith)))

pub read_groups-requires : goal.read_groups-requires
read_groups-requires c =
    let a = c.args in
    let b = in_part _ _ _ c.outside.ensures c.if-outside.false in
    let e : a.at + 1 - a.at ≡ 1 = omega arith in
    (omega arith, omega arith, omega arith, rw e (omega arith))

-- what is made of the groups that were read
made : (c : After-read_groups) {u : Result VarUInt Refusal} → c.read_groups.result ≡ u → let a = c.args in and_then (var_uint_read u) (signed_by c.from-byte.result) ≡ var_int a.s.now a.at a.end
made c q =
    let a = c.args in
    let b = in_part _ _ _ c.outside.ensures c.if-outside.false in
    let e : c.from-byte.result ≡ get_or a.s.now a.at 0 = c.from-byte.ensures in
    rw (← q, c.read_groups.ensures, e)
    (sym (var_int_groups a.s.now a.at a.end (omega arith) (omega arith) (omega arith)))

pub returns : goal.returns
returns c = made (goal.at.returns c).After-read_groups c.in_ok-number.was

pub returns-in_err-number : goal.returns-in_err-number
returns-in_err-number c =
    passed_on _ c.from_residual.result _ c.from_residual.ensures.1
    ∙ made (goal.at.returns-in_err-number c).After-read_groups c.in_err-number.was
