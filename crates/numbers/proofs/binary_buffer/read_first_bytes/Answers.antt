-- `read_first_bytes` meets its contract: a VarUInt of one byte, two or three is worth their bits, and else it goes on past the bytes read.
use Prim.Native.Nat.{◌+◌}
use native.Mathlib.Omega.{arith}
use mathlib.Core.Path.{◌≡◌}
use mathlib.Core.Bool.{true}
use lib.ListN.{length, get_or}
use lib.Dec.{ltb}
use borrow.Author.Tests.{lt-ltb}
use Rattle.numbers.specs.Outcome.{outside_of}
use Rattle.numbers.specs.Answers.{var_uint, var_number}
use Rattle.numbers.proofs.Outcomes.{by_case}
use Rattle.numbers.proofs.Grouping.{var_uint_one, var_uint_two, var_uint_three}
use Rattle.numbers.proofs.ShortVarUInts.{given_short, more_none, more_one, more_two, more_three}
use Rattle.numbers.proofs.binary_buffer.read_first_bytes.Goals as goal

pub returns-then-s-end : goal.returns-then-s-end
unfolding outside_of var_uint var_number
returns-then-s-end c =
    let a = c.args in
    let e : outside_of a.s.now a.at a.end ≡ true = rw (lt-ltb (length a.s.now) a.end c.if-s-end.true) (by_case (ltb a.end a.at) (λ h. rw h) (λ h. rw h)) in
    (rw e, rw e)

pub returns-then-at-end : goal.returns-then-at-end
returns-then-at-end c =
    let a = c.args in
    more_none a.s.now a.at a.end (omega arith) c.if-at-end.true

pub returns-then-end-at : goal.returns-then-end-at
unfolding outside_of var_uint var_number
returns-then-end-at c =
    let a = c.args in
    let e : outside_of a.s.now a.at a.end ≡ true = rw (lt-ltb a.end a.at (omega arith)) in
    (rw e, rw e)

pub returns-then-first-ge128 : goal.returns-then-first-ge128
returns-then-first-ge128 c =
    let a = c.args in
    let e : c.from-first.result ≡ get_or a.s.now a.at 0 = c.from-first.ensures in
    rw e (given_short a.at (var_uint_one a.s.now a.at a.end (omega arith) (omega arith) (omega arith)) (omega arith))

pub returns-then-end-after : goal.returns-then-end-after
returns-then-end-after c =
    let a = c.args in
    let e : c.from-first.result ≡ get_or a.s.now a.at 0 = c.from-first.ensures in
    rw e (more_one a.s.now a.at a.end (omega arith) (omega arith) (omega arith))

pub returns-then-second-ge128 : goal.returns-then-second-ge128
returns-then-second-ge128 c =
    let a = c.args in
    let e : c.from-first.result ≡ get_or a.s.now a.at 0 = c.from-first.ensures in
    let d : c.from-second.result ≡ get_or a.s.now (a.at + 1) 0 = c.from-second.ensures in
    rw (e, d) (given_short a.at (var_uint_two a.s.now a.at a.end (omega arith) (omega arith) (omega arith) (omega arith)) (omega arith))

pub returns-then-end-past : goal.returns-then-end-past
returns-then-end-past c =
    let a = c.args in
    let e : c.from-first.result ≡ get_or a.s.now a.at 0 = c.from-first.ensures in
    let d : c.from-second.result ≡ get_or a.s.now (a.at + 1) 0 = c.from-second.ensures in
    rw (e, d) (more_two a.s.now a.at a.end (omega arith) (omega arith) (omega arith) (omega arith))

pub returns-then-third-ge128 : goal.returns-then-third-ge128
returns-then-third-ge128 c =
    let a = c.args in
    let e : c.from-first.result ≡ get_or a.s.now a.at 0 = c.from-first.ensures in
    let d : c.from-second.result ≡ get_or a.s.now (a.at + 1) 0 = c.from-second.ensures in
    let f : c.from-third.result ≡ get_or a.s.now (a.at + 1 + 1) 0 = c.from-third.ensures in
    rw (e, d, f) (given_short a.at (var_uint_three a.s.now a.at a.end (omega arith) (omega arith) (omega arith) (omega arith) (omega arith)) (omega arith))

pub returns : goal.returns
returns c =
    let a = c.args in
    let e : c.from-first.result ≡ get_or a.s.now a.at 0 = c.from-first.ensures in
    let d : c.from-second.result ≡ get_or a.s.now (a.at + 1) 0 = c.from-second.ensures in
    let f : c.from-third.result ≡ get_or a.s.now (a.at + 1 + 1) 0 = c.from-third.ensures in
    rw (e, d, f) (more_three a.s.now a.at a.end (omega arith) (omega arith) (omega arith) (omega arith) (omega arith))
