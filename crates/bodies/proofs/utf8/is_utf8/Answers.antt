-- `is_utf8` meets its contract: what `from_utf8` takes is what is well-formed.
use mathlib.Core.Path.{◌∙◌, sym}
use Rattle.bodies.proofs.Rows.{utf8_inside}
use Rattle.bodies.proofs.Library.{is_ok_well}
use Rattle.bodies.proofs.utf8.is_utf8.Goals as goal

pub returns : goal.returns
returns c =
    c.is_ok.ensures.value ∙ is_ok_well _ _ _ c.from_utf8.result c.from_utf8.ensures.cases
    ∙ sym (utf8_inside _ c.args.at c.args.end (sym c.outside.ensures ∙ c.if-outside.false))
