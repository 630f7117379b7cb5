-- `read_ids` meets its contract: reading the IDs from each one on is reading them from the first on.
use Prim.Native.Nat.{◌-◌}
use mathlib.Core.Path.{◌≡◌}
use Rattle.checking.specs.Reading.{read_ids}
use Rattle.checking.proofs.item.read_ids.Given as goal

abbrev pub invariant-loop-at : goal.invariant-loop-at
invariant-loop-at l = read_ids l.s l.at l.end ≡ read_ids l.s l.start l.end

abbrev pub decreases-loop-at : goal.decreases-loop-at
decreases-loop-at l = l.end - l.at
