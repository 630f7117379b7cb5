-- `put_var_uint_in` meets its contract: with the bytes that are left stored from here, the buffer is what it is to be; what does not fit is left out.
use Prim.Native.Nat.{◌+◌, ◌-◌}
use mathlib.Core.Path.{◌≡◌}
use lib.Seq.{sets}
use Rattle.encoding.specs.Fields.{var_uint_in}
use Rattle.encoding.proofs.put.put_var_uint_in.Given as goal

abbrev pub invariant-loop-i : goal.invariant-loop-i
invariant-loop-i l = sets l.out (l.at + l.i) (var_uint_in (l.k - l.i) l.n) ≡ sets l.initial.out l.at (var_uint_in l.k l.n)
