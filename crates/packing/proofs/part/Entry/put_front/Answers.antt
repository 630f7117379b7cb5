-- `put_front` meets its contract: a field ID is no longer than the value that it is put with.
use native.Mathlib.Omega.{arith}
use mathlib.Core.Path.{ap}
use lib.ListN.{length}
use Rattle.numbers.proofs.Parts.{part_length, part_taken}
use Rattle.packing.proofs.Entries.{entry_size}
use Rattle.packing.proofs.part.Entry.put_front.Goals as goal

pub put-requires : goal.put-requires
put-requires c =
    let x = c.args.self.now in
    omega (arith, ap length (part_taken x.s.now x.from x.value.start (omega arith) (omega arith)), part_length x.s.now x.from x.value.start (omega arith), entry_size x c.args.n c.requires.0, c.requires.1)
