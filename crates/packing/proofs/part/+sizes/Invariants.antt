-- The cycle of calls {Part::size, Entry::body_size}: what is left of a part has the bytes that the whole lacks. A value's body is smaller than the value, so the
-- measures are twice the bytes for a value and one more for a part.
use Rattle.std.proofs.Common.{◌≡◌, ◌≤◌, ◌+◌, ◌-◌, length}
use Rattle.packing.specs.Private.Items.{left_bytes, part_bytes}
use Rattle.packing.proofs.part.+sizes.Given as goal

abbrev pub decreases-Part::size : goal.decreases-Part::size
decreases-Part::size l = (l.self.now.end - l.self.now.at) + (l.self.now.end - l.self.now.at) + 1

abbrev pub decreases-Entry::body_size : goal.decreases-Entry::body_size
decreases-Entry::body_size l = (l.self.now.value.end - l.self.now.from) + (l.self.now.value.end - l.self.now.from)

abbrev pub invariant-Part::size-loop-met : goal.invariant-Part::size-loop-met
invariant-Part::size-loop-met l = (l.self.at ≤ l.from) × (l.size + length (left_bytes l.self l.from) ≡ length (part_bytes l.self))

abbrev pub decreases-Part::size-loop-met : goal.decreases-Part::size-loop-met
decreases-Part::size-loop-met l = l.self.end - l.from
