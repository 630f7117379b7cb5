-- `ruling_at` meets its contract: what is answered from each item on is what is answered from the first.
use Prim.Native.Nat.{◌-◌}
use mathlib.Core.Path.{◌≡◌}
use Rattle.stepping.specs.declared.cursor.Rules.TheVariants.{Stream}
use Rattle.symbols.specs.Turns.{step_all}
use Rattle.symbols.specs.Text.{on_stream, ruling_at}
use Rattle.symbols.specs.Private.Turned.{ruling_read}
use Rattle.symbols.proofs.symbol_table.ruling_at.Given as goal

abbrev pub invariant-loop-position : goal.invariant-loop-position
invariant-loop-position l =
    step_all l.limit Stream l.s (on_stream l.s l.place) l.at l.end (ruling_read l.table) ≡ ruling_at l.limit l.s l.start l.end l.place

abbrev pub decreases-loop-position : goal.decreases-loop-position
decreases-loop-position l = l.end - l.at
