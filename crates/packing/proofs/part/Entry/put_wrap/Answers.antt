-- `put_wrap` meets its contract: where there are annotations, the wrapper's header, their length and they themselves.
use Prim.Native.Nat.{ℕ}
use native.Mathlib.Omega.{arith}
use mathlib.Core.Path.{◌∙◌, ap}
use mathlib.Core.List.{List}
use lib.ListN.{length}
use Rattle.numbers.specs.Bytes.{part}
use Rattle.numbers.proofs.Parts.{part_taken}
use Rattle.packing.proofs.Fronts.{puts, front_some}
use Rattle.packing.proofs.part.Entry.put_wrap.Goals as goal

pub returns-then-size-ne0 : goal.returns-then-size-ne0
returns-then-size-ne0 c =
    let x = c.args.self.now in
    let a : List ℕ = part x.s.now x.value.annotations x.value.descriptor in
    let t = part_taken x.s.now x.value.annotations x.value.descriptor (omega arith) (omega arith) in
    let e = front_some a c.args.n (λ z. c.if-size-ne0.true (ap length t ∙ z)) in
    grind (arith, puts, t, e)
