-- `read_int_rest` meets its contract: what `read_int` answers lies in the slice, so that the part can be taken.
use borrow.Author.Rules.{rules}
use native.Mathlib.Omega.{arith}
use mathlib.Core.Path.{◌≡◌, ◌∙◌, sym, ap}
use Rattle.numbers.specs.Outcome.{gives}
use Rattle.numbers.specs.Answers.{Fixed, int_rest, rest_of}
use Rattle.numbers.specs.Read.{int_read}
use Rattle.numbers.specs.Meaning.{IntMeaning}
use Rattle.std.specs.Prelude.{Result}
use Rattle.numbers.specs.declared.int.Int.{Int}
use Rattle.numbers.specs.declared.refusal.Refusal.{Refusal}
use Rattle.numbers.proofs.Parts.{part_taken}
use Rattle.numbers.proofs.Meaning.{ints-sound}
use Rattle.numbers.proofs.binary_buffer.read_int_rest.Goals as goal
use Rattle.numbers.proofs.binary_buffer.read_int_rest.Goals.{After-read_int}

-- what the bytes are where an Int was read
told : (c : After-read_int) (i : Fixed) → int_read c.read_int.result ≡ gives i → let a = c.args in IntMeaning a.s.now a.at a.end a.length i
told c i e =
    let a = c.args in
    ints-sound a.s.now a.at a.end a.length i (sym c.read_int.ensures ∙ e)

-- the bytes after the first, by the answer
rest : (c : After-read_int) {u : Result Int Refusal} → c.read_int.result ≡ u → let a = c.args in rest_of a.s.now (int_read u) ≡ int_rest a.s.now a.at a.end a.length
unfolding int_rest
rest c e = let a = c.args in ap (rest_of a.s.now) (sym (ap int_read e) ∙ c.read_int.ensures)

pub slice_bounds-result-count : goal.slice_bounds-result-count
slice_bounds-result-count c =
    let t = told (goal.at.slice_bounds-result-count c).After-read_int _ (ap int_read c.in-Ok.is) in omega arith

pub slice_bounds-result-start : goal.slice_bounds-result-start
slice_bounds-result-start c =
    let t = told (goal.at.slice_bounds-result-start c).After-read_int _ (ap int_read c.in-Ok.is) in search rules

pub slice_bounds-result-end : goal.slice_bounds-result-end
slice_bounds-result-end c =
    let t = told (goal.at.slice_bounds-result-end c).After-read_int _ (ap int_read c.in-Ok.is) in search rules

pub returns-in-Ok : goal.returns-in-Ok
returns-in-Ok c =
    let t = told (goal.at.returns-in-Ok c).After-read_int _ (ap int_read c.in-Ok.is) in
    part_taken _ _ _ t.order (omega arith) ∙ rest (goal.at.returns-in-Ok c).After-read_int c.in-Ok.is

pub returns-in-Err : goal.returns-in-Err
returns-in-Err c = rest (goal.at.returns-in-Err c).After-read_int c.in-Err.is
