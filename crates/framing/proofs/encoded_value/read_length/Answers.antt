-- The body that `read_length` gives begins in the part.
use native.Mathlib.Omega.{arith}
use mathlib.Core.Path.{◌∙◌, sym, ap}
use Rattle.numbers.specs.Read.{var_uint_read}
use Rattle.numbers.proofs.Outcomes.{each_of}
use Rattle.numbers.proofs.Meaning.{var_uint_bounded}
use Rattle.framing.proofs.encoded_value.read_length.Goals as goal

pub returns-clause-in_part : goal.returns-clause-in_part
returns-clause-in_part c h =
    let a = c.args in
    let b = each_of (var_uint_bounded a.s.now a.at a.end) (sym c.read_var_uint.ensures ∙ ap var_uint_read c.in_ok-number.was) in
    (omega (arith, b.begins), b.ends)
