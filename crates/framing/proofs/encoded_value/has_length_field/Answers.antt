-- `has_length_field` meets its contract: by a bit of a number with length code 14, and else in an ordered struct.
use native.Mathlib.Omega.{arith}
use borrow.Author.Tests.{ne_eqb}
use mathlib.Core.Path.{◌∙◌, sym, ap}
use Rattle.framing.specs.Private.InlineLengths.{has_length_field}
use Rattle.framing.proofs.InlineLengths.{bit_length_field, ordered_length_field, high_length_field}
use Rattle.framing.proofs.encoded_value.has_length_field.Goals as goal

pub returns-then-descriptor-ne14 : goal.returns-then-descriptor-ne14
returns-then-descriptor-ne14 c =
    let a = c.args.descriptor in
    c.is_ordered.ensures ∙ ordered_length_field a.type_code a.length_code (ne_eqb _ _ c.if-descriptor-ne14.true)

pub returns-then-descriptor-gt15 : goal.returns-then-descriptor-gt15
returns-then-descriptor-gt15 c =
    let a = c.args.descriptor in sym (high_length_field a.type_code a.length_code c.if-descriptor-gt15.true)

pub returns : goal.returns
returns c =
    let a = c.args.descriptor in
    bit_length_field a.type_code (omega (arith, c.if-descriptor-gt15.false))
    ∙ ap (has_length_field a.type_code) (sym c.if-descriptor-ne14.false)
