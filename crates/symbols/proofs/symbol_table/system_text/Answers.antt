-- `system_text` meets its contract: the table has each text's start, by one computed test.
use Prim.Native.Nat.{◌-◌, ◌<◌}
use native.Mathlib.Omega.{arith}
use borrow.Author.Tests.{ne_eqb}
use Rattle.framing.proofs.Table.{entry}
use Rattle.symbols.specs.SystemTexts.{system_texts, text_start}
use Rattle.symbols.specs.Text.{system_text}
use Rattle.symbols.proofs.symbol_table.system_text.Goals as goal

pub returns : goal.returns
unfolding system_text text_start system_texts
returns c =
    let i = c.args.id in
    let h : i < 10 = c.requires in
    let k : i - 1 < 10 = omega arith in
    rw (ne_eqb _ _ c.if-id-eq0.false, entry text_start, entry text_start, h, k)
