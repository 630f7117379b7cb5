-- `worth` meets its contract: the number of the bytes passed.
use Prim.Native.Nat.{◌^◌, ◌<◌}
use mathlib.Core.Path.{◌≡◌}
use lib.ListN.{take}
use Rattle.numbers.specs.Format.{uint_of}
use Rattle.bodies.proofs.uint.worth.Given as goal

abbrev pub invariant-loop-byte : goal.invariant-loop-byte
invariant-loop-byte l = (l.value ≡ uint_of (take l.byte-index l.bytes)) × (l.value < 256 ^ l.byte-index)
