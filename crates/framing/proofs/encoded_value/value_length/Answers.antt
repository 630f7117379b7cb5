-- `value_length` meets its contract: a length that the descriptor tells is the one that is read; otherwise the length is read first, and tested by type after.
use Prim.Native.Nat.{◌+◌}
use mathlib.Core.Path.{◌≡◌, ◌∙◌, sym, ap}
use mathlib.Core.Bool.{true}
use Rattle.numbers.specs.Outcome.{gives}
use Rattle.framing.specs.Private.InlineLengths.{has_inline_length}
use Rattle.framing.proofs.InlineLengths.{inline_read}
use Rattle.framing.proofs.encoded_value.value_length.Goals as goal

pub returns-then-has_inline_length : goal.returns-then-has_inline_length
returns-then-has_inline_length c =
    let a = c.args.place in
    let h : has_inline_length a.descriptor.type_code a.descriptor.length_code ≡ true = sym c.has_inline_length.ensures ∙ c.if-has_inline_length.true in
    ap (λ n. gives (record { body = a.at + 1; size = n })) c.inline_length-size.ensures ∙ sym (inline_read a.s.now a.at a.end a.descriptor h)
