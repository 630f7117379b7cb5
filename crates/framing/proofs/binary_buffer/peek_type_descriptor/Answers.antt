-- `peek_type_descriptor` looks into the slice where the part is one of it, and what it gives begins that part.
use native.Mathlib.Omega.{arith}
use Rattle.numbers.proofs.Outcomes.{in_part}
use Rattle.framing.proofs.binary_buffer.peek_type_descriptor.Goals as goal

pub bounds-s-at : goal.bounds-s-at
bounds-s-at c =
    let a = c.args in
    omega (arith, in_part a.s.now a.at a.end c.outside.ensures c.if-outside.false)

pub invariant_of-result : goal.invariant_of-result
invariant_of-result c =
    let a = c.args in
    let k = in_part a.s.now a.at a.end c.outside.ensures c.if-outside.false in
    record { before = omega arith; inside = k.1 }
