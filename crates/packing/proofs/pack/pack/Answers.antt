-- `pack` meets its contract: behind the size 69, or the stream packed from the buffer's start.
use mathlib.Core.Path.{◌≡◌, ◌∙◌}
use Rattle.std.proofs.Common.{rules}
use Rattle.packing.specs.Answers.{buffer_of}
use Rattle.packing.proofs.Buffers.{no_room, left_no_room, has_room, filled}
use Rattle.packing.proofs.pack.pack.Goals as goal

pub returns-then-out-n : goal.returns-then-out-n
returns-then-out-n c =
    let a = c.args in
    let n = c.in_ok-n.n in
    record {
      result_value = no_room a.limit a.deepest a.s.now n _ c.in_ok-n.ensures c.if-out-n.true;
      out_after = left_no_room a.limit a.deepest a.s.now n a.out.now c.in_ok-n.ensures c.if-out-n.true;
    }

pub returns-clause-result_value : goal.returns-clause-result_value
returns-clause-result_value c =
    let a = c.args in
    has_room a.limit a.deepest a.s.now c.in_ok-n.n _ c.in_ok-n.ensures c.if-out-n.false

pub returns-clause-out_after : goal.returns-clause-out_after
returns-clause-out_after c =
    let a = c.args in
    let e : c.pack.new.output.out.now ≡ buffer_of a.limit a.deepest a.s.now a.out.now = c.pack.ensures.0 ∙ filled a.limit a.deepest a.s.now c.in_ok-n.n a.out.now _ c.in_ok-n.ensures c.if-out-n.false c.whole.ensures in
    search (rules, e)
