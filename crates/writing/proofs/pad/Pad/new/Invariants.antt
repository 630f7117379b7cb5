-- `new` meets its contract: the loop looks for the fewest bytes, from one on. With fewer of them a VarUInt does not tell the length.
use Prim.Native.Nat.{◌-◌, ◌≤◌}
use mathlib.Core.Path.{◌≡◌}
use Rattle.encoding.specs.Fields.{fewest}
use Rattle.writing.specs.Things.{pad_field}
use Rattle.writing.proofs.Pads.{length_by}
use Rattle.writing.proofs.pad.Pad.new.Given as goal

abbrev pub invariant-loop-field : goal.invariant-loop-field
invariant-loop-field l = (15 ≤ l.size) × (pad_field l.size ≡ fewest (10 - l.field) l.field (length_by l.size))
