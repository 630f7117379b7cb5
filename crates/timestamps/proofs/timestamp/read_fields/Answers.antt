-- `read_fields` meets its contract: at each turn the places hold what was read, and what is still to be read stands behind it.
use native.Mathlib.Omega.{arith}
use mathlib.Core.Path.{◌∙◌, sym, ap}
use Rattle.numbers.specs.Read.{var_uint_read}
use Rattle.numbers.proofs.Passing.{passed_on}
use Rattle.timestamps.proofs.FieldReading.{progress_on, progress_last, progress_refused, progress_done}
use Rattle.timestamps.proofs.timestamp.read_fields.Goals as goal
use Rattle.timestamps.proofs.timestamp.read_fields.Goals.{else-loop-value-test, then-loop-value-test+in_ok-number+then-next-end}

pub returns-in_err-number : goal.returns-in_err-number
returns-in_err-number c =
    let l = c.loop-value in
    let a = c.args in
    passed_on _ c.from_residual.result _ c.from_residual.ensures.1
    ∙ progress_refused a.s.now a.end a.at l.value-items l.value-index l.next l.invariant.1 (omega arith) _ _ (sym c.read_var_uint.ensures ∙ ap var_uint_read c.in_err-number.was)

pub loop-value-preserved : goal.loop-value-preserved
loop-value-preserved c =
    let l = c.loop-value in
    let a = c.args in
    (omega arith, progress_on a.s.now a.end a.at l.value-items l.value-index l.next l.invariant.1 (omega arith) _ _ (sym c.read_var_uint.ensures ∙ ap var_uint_read c.in_ok-number.was) c.if-next-end.false)

pub returns : goal.returns
returns c =
    let l = c.loop-value in
    let a = c.args in
    elim c.loop-value-test.branch [
      | else-loop-value-test w ↦
          rw (w.values-is, w.count-is, w.next-is, l.invariant.0)
          (progress_done a.s.now a.end a.at l.value-items l.value-index l.next l.invariant.1 (omega (arith, l.invariant.1.size)))
      | then-loop-value-test+in_ok-number+then-next-end w ↦
          rw (w.values-is, w.count-is, w.next-is, l.invariant.0)
          (progress_last a.s.now a.end a.at l.value-items l.value-index l.next l.invariant.1 (omega (arith, l.invariant.1.size)) _ _ (sym w.read_var_uint.ensures ∙ ap var_uint_read w.in_ok-number.was) w.if-next-end.true)
    ]
