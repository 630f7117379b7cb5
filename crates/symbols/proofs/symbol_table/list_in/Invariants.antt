-- `list_in` meets its contract: what is answered from each field on is what is answered from the first.
use Prim.Native.Nat.{◌-◌}
use mathlib.Core.Path.{◌≡◌}
use Rattle.stepping.specs.declared.cursor.Rules.TheVariants.{Fields}
use Rattle.symbols.specs.Turns.{step_all}
use Rattle.symbols.specs.Text.{table, on_field, own_list}
use Rattle.symbols.specs.Private.Turned.{field_read}
use Rattle.symbols.proofs.symbol_table.list_in.Given as goal

abbrev pub invariant-loop-id : goal.invariant-loop-id
invariant-loop-id l =
    step_all l.limit Fields l.s on_field l.at l.body.end (field_read l.list) ≡ own_list l.limit l.s (table l.body.start l.body.end)

abbrev pub decreases-loop-id : goal.decreases-loop-id
decreases-loop-id l = l.body.end - l.at
