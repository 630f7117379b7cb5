-- `inside` meets its contract: a value that opens is a container, and its body is the part that opens.
use mathlib.Core.Path.{◌∙◌, sym}
use Rattle.packing.proofs.Entries.{some_inside, none_inside}
use Rattle.packing.proofs.part.Entry.inside.Goals as goal

pub returns : goal.returns
returns c =
    some_inside c.args.self.now c.open.result c.in_ok-body.body c.open.ensures (sym c.ok.ensures.value ∙ c.in_ok-body.was)

pub returns-in_err-body : goal.returns-in_err-body
returns-in_err-body c =
    rw c.from_residual.ensures (none_inside c.args.self.now c.open.result c.open.ensures (sym c.ok.ensures.value ∙ c.in_err-body.was))
