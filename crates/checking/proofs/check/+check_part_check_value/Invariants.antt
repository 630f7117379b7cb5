-- The cycle of calls {check_part, check_value}: a part's check goes on behind each item as from its start. A value's inside has less room than the value, so
-- the measures are twice the room for a value and one more for a part.
use Rattle.std.proofs.Common.{◌≡◌, ◌≤◌, ◌+◌, ◌-◌}
use Rattle.checking.specs.Private.Whole.{full}
use Rattle.checking.proofs.check.+check_part_check_value.Given as goal

abbrev pub decreases-check_part : goal.decreases-check_part
decreases-check_part l = l.room + l.room + 1

abbrev pub decreases-check_value : goal.decreases-check_value
decreases-check_value l = l.room + l.room

abbrev pub invariant-check_part-loop-past : goal.invariant-check_part-loop-past
invariant-check_part-loop-past l =
    let from = l.initial.progress in
    (l.progress.at ≤ l.end)
    × (full l.map.limit l.map.s.now l.rules l.room l.end l.progress.at l.progress.counts.places ≡ full l.map.limit l.map.s.now l.rules l.room l.end from.at from.counts.places)

abbrev pub decreases-check_part-loop-past : goal.decreases-check_part-loop-past
decreases-check_part-loop-past l = l.end - l.progress.at
