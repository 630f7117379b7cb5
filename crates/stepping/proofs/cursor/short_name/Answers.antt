-- `short_name` meets its contract: a short field ID is a name where something follows it.
use borrow.Author.Tests.{ne_eqb}
use mathlib.Core.Path.{sym}
use Rattle.numbers.specs.Answers.{var_uint}
use Rattle.stepping.specs.Names.{field_id}
use Rattle.stepping.proofs.ShortNames.{short_named, short_unfollowed, short_unsaid}
use Rattle.stepping.proofs.cursor.short_name.Goals as goal

pub returns-in_err-value-in-Fields : goal.returns-in_err-value-in-Fields
unfolding field_id
returns-in_err-value-in-Fields c =
    let a = c.args in
    rw (c.in-Fields.is, c.from_residual.ensures)
    (short_unsaid a.at a.end (var_uint a.s.now a.at a.end) (sym c.in_err-value-in-Fields.ensures))

pub returns-then-next-end : goal.returns-then-next-end
unfolding field_id
returns-then-next-end c =
    let a = c.args in
    rw c.in-Fields.is (short_unfollowed a.at a.end (var_uint a.s.now a.at a.end) (sym c.in_ok-value-in-Fields.ensures) c.if-next-end.true)

pub returns-else-next-end : goal.returns-else-next-end
unfolding field_id
returns-else-next-end c =
    let a = c.args in
    rw c.in-Fields.is
    (short_named a.at a.end (var_uint a.s.now a.at a.end) (sym c.in_ok-value-in-Fields.ensures) (ne_eqb _ _ c.if-next-end.false))
