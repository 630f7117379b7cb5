-- Where the length of a value stands, by its descriptor.
-- Assumes nothing.
use Rattle.std.specs.Prelude.{ℕ, eqb}
use Rattle.numbers.specs.Outcome.{pick}
use Rattle.packing.specs.Tree.{lengthless, ordered_byte}
use Rattle.packing.specs.declared.header.Kind.{Kind}
use Rattle.packing.specs.declared.header.Kind.TheVariants.{Lengthless, Ordered, Coded}

unfoldable pub kind_of : ℕ → Kind
kind_of byte = pick (lengthless byte) Lengthless (pick (eqb byte ordered_byte) Ordered Coded)
