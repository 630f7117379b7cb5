-- `read_int` meets its contract: past its first test the part lies in the slice.
use native.Mathlib.Omega.{arith}
use Rattle.numbers.proofs.Outcomes.{in_part}
use Rattle.numbers.proofs.binary_buffer.read_int.Goals as goal

pub overflow_sub-end : goal.overflow_sub-end
overflow_sub-end c = (in_part _ _ _ c.outside.ensures c.if-outside.false).0

pub bounds-s-at : goal.bounds-s-at
bounds-s-at c = let b = in_part _ _ _ c.outside.ensures c.if-outside.false in omega arith
