-- `read_wrapper` passes lengths on that lie in the part.
use mathlib.Core.Path.{◌∙◌, sym, ap}
use Rattle.numbers.specs.Read.{var_uint_read}
use Rattle.numbers.proofs.Outcomes.{each_of}
use Rattle.numbers.proofs.Meaning.{var_uint_bounded}
use native.Mathlib.Omega.{arith}
use Rattle.framing.proofs.annotations_wrapper.read_wrapper.Goals as goal

pub check_wrapper-requires : goal.check_wrapper-requires
check_wrapper-requires c =
    let b = each_of (var_uint_bounded c.args.place.s.now _ c.args.place.end) (sym c.read_var_uint.ensures ∙ ap var_uint_read c.in_ok-size.was) in
    (omega (arith, b.begins), b.ends, b.short, b.small)
