-- `digit` meets its contract: behind each turn what is left is the number by that power of 128.
use Prim.Native.Nat.{◌/◌, ◌^◌}
use mathlib.Core.Path.{◌≡◌}
use Rattle.encoding.proofs.put.digit.Given as goal

abbrev pub invariant-loop : goal.invariant-loop
invariant-loop l = l.rest ≡ l.n / 128 ^ l.counter
