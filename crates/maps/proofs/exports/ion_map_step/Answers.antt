-- `ion_map_step` meets its contract where the step leaves its caller nowhere: what is returned is the answer's number; and where the part's rules are refused:
-- the exported step is refused alike, and its words are put.
use mathlib.Core.Path.{◌∙◌, sym, ap}
use Rattle.numbers.specs.Read.{outcome}
use Rattle.stepping.specs.declared.cursor.Rules.{Rules}
use Rattle.stepping.specs.Answers.{answer_at}
use Rattle.records.specs.Buffer.{answered}
use Rattle.records.specs.Words.{words}
use Rattle.records.proofs.Numbers.{put_answer, step_number}
use Rattle.maps.specs.Exported.{exported_step}
use Rattle.maps.proofs.Putting.{returned_over}
use Rattle.maps.proofs.Within.{by_rules, not_given}
use Rattle.maps.proofs.exports.ion_map_step.Goals as goal

pub returns-in-Break-clause-value : goal.returns-in-Break-clause-value
returns-in-Break-clause-value c =
    let a = c.args in
    let e = by_rules a.limit a.map.now a.start a.end a.position a.kind (sym c.part_rules.ensures ∙ ap (outcome (λ (r : Rules). r)) c.in-Ok.is) in
    sym (ap (answered 9 a.out.now) e ∙ returned_over (answer_at a.limit c.in-Ok.rules a.map.now a.position a.end) a.out.now (sym c.put_step.ensures.value ∙ c.in-Break.is))

pub returns-in-Err : goal.returns-in-Err
returns-in-Err c =
    let a = c.args in
    let e = not_given a.limit a.map.now a.start a.end a.position a.kind (sym c.part_rules.ensures ∙ ap (outcome (λ (r : Rules). r)) c.in-Err.is) in
    let o = exported_step a.limit a.map.now a.start a.end a.position a.kind in
    put_answer 9 (words o) a.out.now o (step_number o) (c.refused_words.ensures ∙ sym (ap words e)) c.put_record.ensures
