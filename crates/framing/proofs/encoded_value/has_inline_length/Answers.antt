-- `has_inline_length` meets its contract: the entry of a type code has the bit of a length code where the two tell a length.
use native.Mathlib.Omega.{arith}
use mathlib.Core.Logic.{⊎_elim}
use Rattle.framing.proofs.InlineLengths.{bit_inline, high_type, high_code}
use Rattle.framing.proofs.encoded_value.has_inline_length.Goals as goal

pub returns-then-descriptor-gt15 : goal.returns-then-descriptor-gt15
returns-then-descriptor-gt15 c =
    ⊎_elim (high_type c.args.descriptor.type_code c.args.descriptor.length_code) (λ h. high_code c.args.descriptor.type_code c.args.descriptor.length_code h.1) c.then-descriptor-gt15.either

pub returns : goal.returns
returns c =
    let a = c.args in
    rw c.inline_codes.ensures
    (bit_inline a.descriptor.type_code a.descriptor.length_code (omega (arith, c.if-descriptor-gt15-2.false)) (omega (arith, c.if-descriptor-gt15-2.false)))
