-- The scope paper's "Descriptor": type code, length code, and what a descriptor byte begins.
-- Assumes nothing.
use Rattle.std.specs.Prelude.{ℕ, ◌/◌, ◌%◌, ltb, eqb}
use Rattle.numbers.specs.Outcome.{pick}
use Rattle.numbers.specs.declared.type_descriptor.Kind.{Kind}
use Rattle.numbers.specs.declared.type_descriptor.Kind.TheVariants.{Value, Null, Pad, Marker, Wrapper, Reserved}
use Rattle.numbers.specs.declared.type_descriptor.TypeDescriptor.{TypeDescriptor}

-- "Code 0 with length code 15 is null, otherwise a pad. E0 starts a marker; E1 to EF a wrapper. Length code 15 on types 1 to 13 is a typed null." 15 is
-- reserved.
unfoldable pub kind_of : ℕ → ℕ → Kind
kind_of type_code length_code =
    pick (ltb 14 type_code) Reserved
    (pick (eqb type_code 14) (pick (eqb length_code 0) Marker Wrapper)
    (pick (eqb length_code 15) Null (pick (eqb type_code 0) Pad Value)))

-- "High four bits are the type code, low four the length code."
unfoldable pub descriptor_of : ℕ → TypeDescriptor
descriptor_of byte =
    record { type_code = byte / 16; length_code = byte % 16; kind = kind_of (byte / 16) (byte % 16) }
