-- `bounded_at` meets its contract: where a pad's descriptor stands, by the laws of it behind the pads passed.
use native.Mathlib.Omega.{arith}
use mathlib.Core.Path.{◌∙◌, sym}
use Rattle.stepping.specs.Read.{name_of}
use Rattle.counting.proofs.Behind.{PadBegun, behind_more, pad_passed, behind_pad, behind_cut}
use Rattle.counting.proofs.counted.bounded_at.Goals as goal
use Rattle.counting.proofs.counted.bounded_at.Goals.{Else-not-begins_pad}

begun : (c : Else-not-begins_pad) → let a = c.args in PadBegun a.limit a.rules a.s.now c.loop-from.from a.end (name_of c.in-Ok.name)
begun c =
    record {
      ranged = sym c.out_of_range.ensures ∙ c.if-out_of_range.false;
      within = c.loop-from.invariant.1;
      before = c.loop-from-test.true;
      name = sym c.in-Ok.ensures;
      descriptor = sym c.begins_pad.ensures ∙ c.if-not-begins_pad.false;
    }

pub returns-then-pads-most : goal.returns-then-pads-most
returns-then-pads-most c =
    sym (behind_more (begun (goal.at.returns-then-pads-most c).Else-not-begins_pad) _ _ c.if-pads-most.true) ∙ c.loop-from.invariant.5

pub loop-from-smaller : goal.loop-from-smaller
loop-from-smaller c =
    let p = pad_passed (begun (goal.at.loop-from-smaller c).Else-not-begins_pad) (sym c.in-Ok-read_nop_pad.ensures) in
    omega (arith, c.loop-from-test.true)

pub loop-from-preserved : goal.loop-from-preserved
loop-from-preserved c =
    let b = begun (goal.at.loop-from-preserved c).Else-not-begins_pad in
    let h = sym c.in-Ok-read_nop_pad.ensures in
    let p = pad_passed b h in
    grind (arith, behind_pad b c.args.most c.loop-from.pads h, c.loop-from.invariant)

pub returns-in-Err-read_nop_pad : goal.returns-in-Err-read_nop_pad
returns-in-Err-read_nop_pad c =
    let b = begun (goal.at.returns-in-Err-read_nop_pad c).Else-not-begins_pad in
    grind (arith, behind_cut b c.args.most c.loop-from.pads c.loop-from.names c.loop-from.invariant.3 (sym c.in-Err-read_nop_pad.ensures), c.loop-from.invariant)
