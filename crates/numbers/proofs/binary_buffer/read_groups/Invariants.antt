-- `read_groups` meets its contract: what is read from each place on is what is read from the first.
use Prim.Native.Nat.{◌-◌, ◌^◌, ◌<◌}
use mathlib.Core.Path.{◌≡◌}
use Rattle.numbers.specs.Refusals.{number_of}
use Rattle.numbers.specs.Private.Groups.{groups}
use Rattle.numbers.proofs.binary_buffer.read_groups.Given as goal

abbrev pub invariant-loop-i : goal.invariant-loop-i
invariant-loop-i l =
    (l.value < 128 ^ (l.i - l.from)) × (groups (number_of l.cut) l.first l.s l.from l.at l.end ≡ groups (number_of l.cut) l.value l.s l.from l.i l.end)
