-- `item_from` meets its contract: what is answered from each position on is what is answered from the first.
use Prim.Native.Nat.{◌-◌, ◌≤◌}
use mathlib.Core.Path.{◌≡◌}
use lib.ListN.{length}
use Rattle.stepping.specs.Names.{answer_from}
use Rattle.stepping.specs.Read.{name_of}
use Rattle.stepping.proofs.cursor.item_from.Given as goal

abbrev pub invariant-loop-from : goal.invariant-loop-from
invariant-loop-from l =
    (l.from ≤ l.end) × (l.end ≤ length l.s) × (answer_from l.limit l.rules l.s l.from l.end (name_of l.name) ≡ answer_from l.limit l.rules l.s l.at l.end (name_of l.fn.name))

abbrev pub decreases-loop-from : goal.decreases-loop-from
decreases-loop-from l = l.end - l.from
