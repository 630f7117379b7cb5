-- `past_limit` meets its contract: the loop keeps the place of the last byte, so that the answer is that of the whole part.
use mathlib.Core.Path.{◌≡◌}
use Rattle.numbers.specs.Answers.{last_byte}
use Rattle.numbers.proofs.binary_buffer.past_limit.Given as goal

abbrev pub invariant-loop-i : goal.invariant-loop-i
invariant-loop-i l = last_byte l.s l.at l.end ≡ last_byte l.s l.i l.end
