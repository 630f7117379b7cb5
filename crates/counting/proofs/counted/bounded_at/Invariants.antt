-- `bounded_at` meets its contract: what is answered from each position on, behind the pads passed before it, is what is answered from the first.
use Prim.Native.Nat.{◌+◌, ◌-◌, ◌≤◌}
use mathlib.Core.Path.{◌≡◌}
use lib.ListN.{length}
use Rattle.stepping.specs.Runs.{cursor}
use Rattle.counting.specs.Bounded.{bounded}
use Rattle.counting.proofs.Behind.{behind}
use Rattle.counting.proofs.counted.bounded_at.Given as goal

abbrev pub invariant-loop-from : goal.invariant-loop-from
invariant-loop-from l =
    (l.from ≤ l.end)
    × (l.end ≤ length l.s)
    × (l.at + l.pads ≤ l.from)
    × (l.names ≡ l.pads)
    × (l.pads ≤ l.most)
    × (behind l.limit l.most l.rules l.s l.pads l.from l.end ≡ bounded l.limit l.most l.rules l.s (cursor l.at l.end))

abbrev pub decreases-loop-from : goal.decreases-loop-from
decreases-loop-from l = l.end - l.from
