-- `count` meets its contract: what was counted with the items that are left is what there is to count. An item more is counted, or the place goes up to the
-- part above: so the measure falls.
use Prim.Native.Nat.{◌+◌, ◌*◌, ◌-◌}
use Rattle.walking.specs.Walk.{parts}
use Rattle.walking.specs.Calls.{calls, items_in}
use Rattle.walking.specs.Private.State.{state_at}
use Rattle.walking.proofs.Turns.{Counted}
use Rattle.walking.proofs.walk.Walk.count.Given as goal

abbrev pub invariant-loop-count : goal.invariant-loop-count
invariant-loop-count l =
    Counted l.limits l.most l.count (items_in (calls l.limits.bytes l.limits.depth l.most l.s l.fn.self)) l.s (state_at l.self l.place)

abbrev pub decreases-loop-count : goal.decreases-loop-count
decreases-loop-count l = (l.most - l.count) * parts + l.place.depth
