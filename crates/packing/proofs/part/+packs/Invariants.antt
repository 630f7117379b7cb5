-- The cycle of calls {Part::pack, Entry::pack}: what is left of a part is stored behind what is packed. A value's body is smaller than the value, so the
-- measures are twice the bytes for a value and one more for a part.
use Rattle.std.proofs.Common.{◌≡◌, ◌≤◌, ◌+◌, ◌-◌, length}
use Rattle.std.proofs.lemmas.List.Edits.{sets}
use Rattle.packing.specs.Private.Items.{left_bytes, part_bytes}
use Rattle.packing.proofs.part.+packs.Given as goal

abbrev pub decreases-Part::pack : goal.decreases-Part::pack
decreases-Part::pack l = (l.self.now.end - l.self.now.at) + (l.self.now.end - l.self.now.at) + 1

abbrev pub decreases-Entry::pack : goal.decreases-Entry::pack
decreases-Entry::pack l = (l.self.now.value.end - l.self.now.from) + (l.self.now.value.end - l.self.now.from)

abbrev pub invariant-Part::pack-loop-met : goal.invariant-Part::pack-loop-met
invariant-Part::pack-loop-met l =
    (l.self.at ≤ l.from)
    × (l.output.next + length (left_bytes l.self l.from) ≡ l.initial.output.next + length (part_bytes l.self))
    × (sets l.output.out.now l.output.next (left_bytes l.self l.from) ≡ sets l.initial.output.out.now l.initial.output.next (part_bytes l.self))
    × (length l.output.out.now ≡ length l.initial.output.out.now)
    × (l.output.out.ghost_name ≡ l.initial.output.out.ghost_name)

abbrev pub decreases-Part::pack-loop-met : goal.decreases-Part::pack-loop-met
decreases-Part::pack-loop-met l = l.self.end - l.from
