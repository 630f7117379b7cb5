-- `find` meets its contract: what is sought from each place on is what is sought from the first.
use Prim.Native.Nat.{◌≤◌}
use mathlib.Core.Path.{◌≡◌}
use Rattle.walking.specs.Walk.{most_depth}
use Rattle.walking.specs.Calls.{seek}
use Rattle.walking.proofs.walk.Walk.find.Given as goal

abbrev pub invariant-loop-depth : goal.invariant-loop-depth
invariant-loop-depth l =
    (l.depth ≤ most_depth) × (seek l.limit l.s l.self l.depth l.at ≡ seek l.limit l.s l.self l.self.depth l.self.at)
