-- `from_byte` meets its contract: the nibbles, and the kind that they have.
use Rattle.numbers.specs.Descriptor.{descriptor_of}
use Rattle.numbers.proofs.type_descriptor.TypeDescriptor.from_byte.Goals as goal

pub returns : goal.returns
unfolding descriptor_of
returns c = rw c.kind_of.ensures
