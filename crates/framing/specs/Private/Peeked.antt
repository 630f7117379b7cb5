-- What the looking at a descriptor says in the scope paper's terms.
-- Assumes nothing.
use Rattle.std.specs.Prelude.{Result}
use Rattle.numbers.specs.Outcome.{Outcome}
use Rattle.numbers.specs.Read.{outcome}
use Rattle.numbers.specs.declared.refusal.Refusal.{Refusal}
use Rattle.numbers.specs.declared.type_descriptor.TypeDescriptor.{TypeDescriptor}
use Rattle.framing.specs.declared.described.Described.{Described}

abbrev pub peeked_read : Result Described Refusal → Outcome TypeDescriptor
peeked_read = outcome (λ d. d.descriptor)
