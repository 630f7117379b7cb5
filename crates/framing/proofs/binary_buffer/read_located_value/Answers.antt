-- `read_located_value` passes a length on whose body begins in the part.
use native.Mathlib.Omega.{arith}
use mathlib.Core.Path.{◌∙◌, sym, ap}
use Rattle.numbers.proofs.Outcomes.{each_of}
use Rattle.framing.specs.Read.{length_read}
use Rattle.framing.proofs.Bounds.{value_length_each}
use Rattle.framing.proofs.binary_buffer.read_located_value.Goals as goal

pub fit_value-requires : goal.fit_value-requires
fit_value-requires c =
    let a = c.args in
    let b = each_of (value_length_each a.located.value.s.now a.located.value.at a.located.value.end a.located.value.descriptor (omega arith)) (sym c.value_length.ensures ∙ ap length_read c.in_ok-size.was) in
    (omega (arith, b.low), b.high)
