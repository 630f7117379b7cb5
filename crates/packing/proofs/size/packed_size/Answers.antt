-- `packed_size` meets its contract: behind the check it is the size of the stream.
use mathlib.Core.Path.{◌∙◌, ap}
use lib.ListN.{length}
use Rattle.packing.proofs.Buffers.{size_accepted}
use Rattle.packing.proofs.size.packed_size.Goals as goal

pub returns : goal.returns
returns c =
    let a = c.args in
    size_accepted a.limit a.deepest a.s.now c.in_ok-check_map.field-0 c.size.result c.in_ok-check_map.ensures (c.size.ensures ∙ ap length c.whole.ensures)
