-- `ion_map_write_int` meets its contract: the closure answers and writes what is to be answered and written.
use borrow.Author.Rules.{rules}
use Rattle.writes.proofs.exports.ion_map_write_int.Goals as goal

pub returns : goal.returns
returns c = λ limit deepest. c.put_written.ensures _ _ (λ answer left p. (search rules, search rules))
