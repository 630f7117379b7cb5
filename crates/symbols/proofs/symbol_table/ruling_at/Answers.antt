-- `ruling_at` meets its contract: an item that stands around the place is refused.
use mathlib.Core.Path.{◌∙◌, sym, ap}
use mathlib.Core.Bool.{Bool}
use Rattle.std.specs.Prelude.{Ok}
use Rattle.numbers.specs.Read.{outcome}
use Rattle.numbers.proofs.Passing.{passed_on}
use Rattle.stepping.specs.Read.{item_read}
use Rattle.symbols.specs.Private.Turned.{ruling_read}
use Rattle.symbols.proofs.Handlers.{marker_around, value_around}
use Rattle.symbols.proofs.symbol_table.ruling_at.Goals as goal

pub returns-in_err-is_at-in-Marker : goal.returns-in_err-is_at-in-Marker
returns-in_err-is_at-in-Marker c =
    let a = c.args in
    passed_on _ c.from_residual-in_err-is_at-in-Marker.result _ c.from_residual-in_err-is_at-in-Marker.ensures.1
    ∙ sym (marker_around a.limit a.s.now c.loop-position.at a.end a.place (ruling_read c.loop-position.table) _ _ _ _ _ _ (sym c.item_at.ensures ∙ ap item_read (c.in_ok-position.was ∙ ap Ok c.in-Marker.is)) (sym c.is_at.ensures ∙ ap (outcome (λ (t : Bool). t)) c.in_err-is_at-in-Marker.was))
    ∙ c.loop-position.invariant

pub returns-in_err-is_at-in-Value : goal.returns-in_err-is_at-in-Value
returns-in_err-is_at-in-Value c =
    let a = c.args in
    passed_on _ c.from_residual-in_err-is_at-in-Value.result _ c.from_residual-in_err-is_at-in-Value.ensures.1
    ∙ sym (value_around a.limit a.s.now c.loop-position.at a.end a.place (ruling_read c.loop-position.table) c.in-Value.value _ _ (sym c.item_at.ensures ∙ ap item_read (c.in_ok-position.was ∙ ap Ok c.in-Value.is)) (sym c.is_at-in-Value.ensures ∙ ap (outcome (λ (t : Bool). t)) c.in_err-is_at-in-Value.was))
    ∙ c.loop-position.invariant
