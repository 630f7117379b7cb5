-- `ion_map_steps` meets its contract: 51 before anything else, then what the part's rules refuse, then the records, their count and the last number.
use Prim.Native.Nat.{ℕ, suc, ◌-◌, ◌*◌, ◌/◌, ◌≤◌}
use native.Mathlib.Omega.{arith}
use borrow.Author.Tests.{le-ltb}
use mathlib.Core.Path.{◌≡◌, ◌∙◌, sym, ap}
use mathlib.Core.List.{List, [], ◌∷◌}
use lib.ListN.{length}
use lib.Seq.{sets}
use Rattle.numbers.specs.Outcome.{Outcome}
use Rattle.numbers.specs.Read.{outcome, refusal_read}
use Rattle.stepping.specs.Items.{Item}
use Rattle.stepping.specs.declared.cursor.Rules.{Rules}
use Rattle.records.specs.Buffer.{bytes_of, record_size, record_in, returned_by, words_returned}
use Rattle.records.specs.Words.{words}
use Rattle.records.proofs.Numbers.{step_number}
use Rattle.batches.specs.Steps.{full_run, all_words, last_number, records_in, count_in, returned_last}
use Rattle.batches.specs.Private.Run.{step_run}
use Rattle.maps.proofs.Within.{Given, given}
use Rattle.batches.proofs.ManySteps.{records_are, run_short, one_record}
use Rattle.batches.proofs.RunsOfCalls.{run_is, run_refused}
use Rattle.batches.proofs.steps.ion_map_steps.Goals as goal
use Rattle.batches.proofs.steps.ion_map_steps.Goals.{In-Ok}

-- the words of one answer, put, their number and their count
module _ (old : List ℕ) (h : record_size ≤ length old) (o : Outcome Item) where
  one_count : 1 ≡ count_in (o ∷ []) old
  unfolding count_in
  one_count = rw (le-ltb (length old) record_size h)

  one_number : returned_by (words o) old ≡ returned_last (o ∷ []) old
  unfolding words_returned returned_last
  one_number = rw (le-ltb (length old) record_size h) (step_number o)

  one_put : {n : ℕ} {new ws : List ℕ} {os : List (Outcome Item)} → ws ≡ words o → record { value : n ≡ returned_by ws old; out_after : new ≡ record_in ws old } → os ≡ o ∷ [] → record { value : n ≡ returned_last os old; out_after : new ≡ records_in os old; count_after : 1 ≡ count_in os old }
  one_put e p q = record {
    value = p.value ∙ ap (λ (ws : List ℕ). returned_by ws old) e ∙ one_number ∙ ap (λ (os : List (Outcome Item)). returned_last os old) (sym q);
    out_after = p.out_after ∙ ap (λ (ws : List ℕ). record_in ws old) e ∙ one_record o old h ∙ ap (λ (os : List (Outcome Item)). records_in os old) (sym q);
    count_after = one_count ∙ ap (λ (os : List (Outcome Item)). count_in os old) (sym q);
  }

-- where the part's rules are given, the steps go by them
rules_given : (c : In-Ok) → let a = c.args in Given a.limit a.map.now a.start a.end a.position a.kind c.in-Ok.rules
rules_given c =
    let a = c.args in
    given a.limit a.map.now a.start a.end a.position a.kind c.in-Ok.rules (sym c.part_rules.ensures ∙ ap (outcome (λ (r : Rules). r)) c.in-Ok.is)

pub put_steps-steps-requires : goal.put_steps-steps-requires
put_steps-steps-requires c =
    let g = rules_given (goal.at.put_steps-steps-requires c).In-Ok in
    (g.ranged, g.within.order, g.within.high)

pub returns-in-Ok : goal.returns-in-Ok
unfolding returned_last count_in
returns-in-Ok c =
    let a = c.args in
    let old = a.out.now in
    let g = rules_given (goal.at.returns-in-Ok c).In-Ok in
    let i = g.within in
    let full = full_run a.limit old a.map.now a.start a.end a.position a.kind in
    let run : Rules → List (Outcome Item) = λ x. step_run a.limit (length old / record_size) x a.map.now a.position a.end in
    let e : run c.in-Ok.rules ≡ full = ap run g.rules_is ∙ sym (run_is a.limit a.map.now a.start a.end a.kind i.high (length old / record_size) a.position i.low i.kind_is i.order) in
    let s = run_short a.limit (length old / record_size) c.in-Ok.rules a.map.now a.position a.end in
    let k : record_size * length full ≤ length old = omega (arith, s, ap length e) in
    let t = le-ltb (length old) record_size c.if-out-lt-RECORD_SIZE.false in
    record {
      value = rw t (c.put_steps-steps.ensures.number_value ∙ ap (last_number 0) e);
      out_after = c.put_steps-steps.ensures.out_after ∙ ap (λ (os : List (Outcome Item)). sets old 0 (bytes_of (all_words os))) e ∙ records_are full old k c.if-out-lt-RECORD_SIZE.false;
      count_after = rw t (c.put_steps-steps.ensures.count_value ∙ ap length e);
    }

pub returns-in-Err : goal.returns-in-Err
returns-in-Err c =
    let a = c.args in
    let old = a.out.now in
    let r = c.in-Err.refusal in
    let n : length old / record_size ≡ suc (length old / record_size - 1) = omega (arith, c.if-out-lt-RECORD_SIZE.false) in
    let e = run_refused a.limit a.map.now a.start a.end a.position a.kind n (sym c.part_rules.ensures ∙ ap (outcome (λ (r : Rules). r)) c.in-Err.is) in
    one_put old c.if-out-lt-RECORD_SIZE.false (refusal_read r) c.refused_words.ensures c.put_record.ensures e
