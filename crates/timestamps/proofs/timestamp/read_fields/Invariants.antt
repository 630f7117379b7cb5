-- `read_fields` meets its contract: at each turn the places hold what was read, and what is still to be read stands behind it.
use mathlib.Core.Path.{◌≡◌}
use Rattle.timestamps.proofs.FieldReading.{Progress}
use Rattle.timestamps.proofs.timestamp.read_fields.Given as goal

abbrev pub invariant-loop-value : goal.invariant-loop-value
invariant-loop-value l = (l.count ≡ l.value-index) × Progress l.s l.end l.at l.value-items l.value-index l.next
