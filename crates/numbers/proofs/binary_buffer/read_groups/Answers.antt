-- `read_groups` meets its contract: what is read from each place on is what is read from the first.
use Prim.Native.Nat.{ℕ, ◌+◌, ◌-◌}
use native.Mathlib.Omega.{arith}
use mathlib.Core.Path.{◌≡◌, ◌∙◌, sym, ap}
use lib.ListN.{get_or}
use Rattle.numbers.specs.Answers.{last_byte}
use Rattle.numbers.specs.Refusals.{number_of}
use Rattle.numbers.proofs.LastByte.{last_none}
use Rattle.numbers.proofs.Grouping.{groups_cut, groups_on, groups_here, grows, fits}
use Rattle.numbers.proofs.binary_buffer.read_groups.Goals as goal

pub returns-then-i-from-ge-MAX_ENCODED_SIZE_IN_BYTES : goal.returns-then-i-from-ge-MAX_ENCODED_SIZE_IN_BYTES
returns-then-i-from-ge-MAX_ENCODED_SIZE_IN_BYTES c =
    let l = c.loop-i in c.past_limit.ensures l.value ∙ sym l.invariant.1

pub overflow_mul-value : goal.overflow_mul-value
overflow_mul-value c =
    let l = c.loop-i in
    record { fits = omega (arith, fits l.value 0 (l.i - c.args.from) l.invariant.0 (omega arith)) }

pub overflow_add-value : goal.overflow_add-value
overflow_add-value c =
    let l = c.loop-i in
    record { fits = omega (arith, fits l.value c.from-byte.result (l.i - c.args.from) l.invariant.0 (omega arith)) }

pub returns-then-byte-ge128 : goal.returns-then-byte-ge128
returns-then-byte-ge128 c =
    let a = c.args in
    let l = c.loop-i in
    let e : c.from-byte.result ≡ get_or a.s.now l.i 0 = c.from-byte.ensures in
    rw e
    (sym (l.invariant.1
    ∙ groups_here (number_of a.cut) l.value a.s.now a.from l.i a.end (omega arith) (omega arith) (omega arith) (omega arith)))

pub loop-i-preserved : goal.loop-i-preserved
loop-i-preserved c =
    let a = c.args in
    let l = c.loop-i in
    let e : c.from-byte.result ≡ get_or a.s.now l.i 0 = c.from-byte.ensures in
    let k : l.i + 1 - a.from ≡ l.i - a.from + 1 = omega arith in (
      rw k (grows l.value c.from-byte.result (l.i - a.from) l.invariant.0),
      rw e
          (l.invariant.1 ∙ groups_on (number_of a.cut) l.value a.s.now a.from l.i a.end (omega arith) (omega arith) (omega arith)),
    )

pub returns : goal.returns
returns c =
    let a = c.args in
    let l = c.loop-i in
    let e : l.i ≡ a.end = omega arith in
    sym
    (l.invariant.1
    ∙ groups_cut (number_of a.cut) l.value a.s.now a.from l.i a.end
    (ap (λ (i : ℕ). last_byte a.s.now i a.end) e ∙ last_none a.s.now a.end))
