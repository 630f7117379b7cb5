-- `put_bytes` meets its contract: with what is left stored from here, the buffer is what it is to be; what does not fit is left out.
use Prim.Native.Nat.{◌+◌}
use mathlib.Core.Path.{◌≡◌}
use lib.ListN.{drop}
use lib.Seq.{sets}
use Rattle.encoding.proofs.put.put_bytes.Given as goal

abbrev pub invariant-loop-i : goal.invariant-loop-i
invariant-loop-i l = sets l.out (l.at + l.i) (drop l.i l.from) ≡ sets l.initial.out l.at l.from
