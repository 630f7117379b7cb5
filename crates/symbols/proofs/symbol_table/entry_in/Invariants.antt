-- `entry_in` meets its contract: what is answered from each entry on is what is answered from the first.
use Prim.Native.Nat.{◌-◌}
use mathlib.Core.Path.{◌≡◌}
use Rattle.stepping.specs.declared.cursor.Rules.TheVariants.{Sequence}
use Rattle.symbols.specs.Turns.{step_all}
use Rattle.symbols.specs.Text.{listed, on_entry, own_text}
use Rattle.symbols.proofs.symbol_table.entry_in.Given as goal

abbrev pub invariant-loop : goal.invariant-loop
invariant-loop l =
    step_all l.limit Sequence l.s (on_entry l.s) l.at l.list.end (l.count - l.counter) ≡ own_text l.limit l.s l.count (listed l.list.start l.list.end)
