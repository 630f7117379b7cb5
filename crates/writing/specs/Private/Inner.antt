-- Why a byte of a kind begins no value of a wrapper.
-- Assumes nothing.
use Rattle.std.specs.Prelude.{Option, Some, None}
use Rattle.numbers.specs.declared.refusal.Reason.{Reason}
use Rattle.numbers.specs.declared.refusal.Reason.TheVariants.{WrapperInWrapper, PadInWrapper}
use Rattle.numbers.specs.declared.type_descriptor.Kind.{Kind}
use Rattle.numbers.specs.declared.type_descriptor.Kind.TheVariants.{Value, Null, Pad, Marker, Wrapper, Reserved}

-- "27, 28", and neither of every other
abbrev pub inner_fault : Kind → Option Reason
inner_fault Value = None
inner_fault Null = None
inner_fault Pad = Some PadInWrapper
inner_fault Marker = None
inner_fault Wrapper = Some WrapperInWrapper
inner_fault Reserved = None
