-- `read_magnitude` meets its contract: the digits passed are worth so much.
use Prim.Native.Nat.{◌^◌, ◌<◌}
use mathlib.Core.Path.{◌≡◌}
use mathlib.Core.List.{◌∷◌}
use lib.ListN.{take}
use Rattle.numbers.specs.Format.{of_digits}
use Rattle.timestamps.proofs.timestamp.read_magnitude.Given as goal

abbrev pub invariant-loop-byte : goal.invariant-loop-byte
invariant-loop-byte l = (l.value ≡ of_digits 256 (l.first ∷ take l.byte-index l.rest)) × (l.value < 256 ^ 8)
