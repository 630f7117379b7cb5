-- `inline_codes` meets its contract: one computed test over the table gives its rule at the type code.
use Prim.Native.Nat.{◌<◌}
use native.Mathlib.Omega.{arith}
use mathlib.Core.Path.{◌≡◌, ap}
use Rattle.numbers.specs.Descriptor.{kind_of}
use Rattle.framing.proofs.Table.{entry}
use Rattle.framing.specs.Answers.{value_code, bad_float, short_timestamp}
use Rattle.framing.specs.Private.InlineLengths.{inline_length, has_inline_length, inline_codes}
use Rattle.framing.proofs.encoded_value.inline_codes.Goals as goal

pub returns : goal.returns
unfolding inline_codes has_inline_length kind_of value_code bad_float short_timestamp inline_length
returns c =
    let e : c.from.result ≡ c.args.type_code = c.from.ensures in
    let h : c.from.result < 16 = omega (arith, c.requires) in
    rw (entry inline_codes) (ap inline_codes e)
