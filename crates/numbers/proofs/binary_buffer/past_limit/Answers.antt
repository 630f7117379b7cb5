-- `past_limit` meets its contract: the loop keeps the place of the last byte, so that the answer is that of the whole part.
use Prim.Native.Nat.{ℕ}
use native.Mathlib.Omega.{arith}
use mathlib.Core.Path.{◌≡◌, ◌∙◌, sym, ap}
use Rattle.numbers.specs.Answers.{last_byte}
use Rattle.numbers.specs.Refusals.{number_of}
use Rattle.numbers.proofs.LastByte.{last_here, last_on, last_none}
use Rattle.numbers.proofs.Grouping.{groups_cut, groups_long}
use Rattle.numbers.proofs.binary_buffer.past_limit.Goals as goal

pub returns-then-s-i-ge128 : goal.returns-then-s-i-ge128
returns-then-s-i-ge128 c =
    let a = c.args in
    let l = c.loop-i in
    λ v.
    sym
    (groups_long (number_of a.cut) v a.s.now a.from a.at a.end l.i
    (l.invariant ∙ last_here a.s.now l.i a.end (omega arith) c.if-s-i-ge128.true)
    (omega arith)
    (omega arith))

pub loop-i-preserved : goal.loop-i-preserved
loop-i-preserved c =
    let a = c.args in
    let l = c.loop-i in
    l.invariant ∙ last_on a.s.now l.i a.end (omega arith) c.if-s-i-ge128.false

pub returns : goal.returns
returns c =
    let a = c.args in
    let l = c.loop-i in
    let e : l.i ≡ a.end = omega arith in
    λ v.
    sym
    (groups_cut (number_of a.cut) v a.s.now a.from a.at a.end
    (l.invariant ∙ ap (λ (i : ℕ). last_byte a.s.now i a.end) e ∙ last_none a.s.now a.end))
