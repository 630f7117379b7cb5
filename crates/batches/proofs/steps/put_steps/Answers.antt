-- `put_steps` meets its contract: with the records that are left stored from here on, the buffer is what it is to be.
use Prim.Native.Nat.{ℕ, suc, ◌+◌, ◌-◌, ◌*◌, ◌/◌, ◌≤◌}
use native.Mathlib.Omega.{arith}
use mathlib.Core.Path.{◌≡◌, ◌∙◌, sym, ap}
use mathlib.Core.List.{List, [], ◌∷◌}
use lib.ListN.{length}
use lib.Seq.{sets}
use borrow.Rule.Slice.PartMut.{mid_of, put_mid, mid_len}
use Rattle.numbers.specs.Outcome.{Outcome}
use Rattle.stepping.specs.Items.{Item}
use Rattle.stepping.specs.Answers.{answer_at}
use Rattle.stepping.specs.Leaving.{left_of}
use Rattle.std.specs.Prelude.{Some, None}
use Rattle.std.specs.declared.ops.ControlFlow.TheVariants.{Continue, Break}
use Rattle.records.specs.Buffer.{bytes_of, record_size, number_of}
use Rattle.records.specs.Words.{words}
use Rattle.batches.specs.Steps.{all_words, last_number}
use Rattle.batches.specs.Private.Run.{step_run}
use Rattle.maps.proofs.Putting.{at_left, over_left, returned_room}
use Rattle.batches.proofs.ManySteps.{one_more, the_last, none_left, left_in, words_all, next_record, put_part}
use Rattle.batches.proofs.steps.put_steps.Goals as goal
use Rattle.batches.proofs.steps.put_steps.Goals.{After-put_step}

-- the answer of a step in the loop, where it leaves its run, and its record in the buffer
module _ (b : After-put_step) where
  abbrev o : Outcome Item
  o = answer_at b.args.limit b.args.rules b.args.map.now b.loop-i.at b.args.end

  -- where the record is put, and the part of the buffer that it is put into
  abbrev from : ℕ
  from = b.loop-i.i * record_size

  abbrev part : List ℕ
  part = mid_of from (from + record_size - from) b.loop-i.out

  -- how many records there is room for
  abbrev room : ℕ
  room = length b.args.out.now / record_size

  within : from + record_size ≤ length b.loop-i.out
  within = omega (arith, b.loop-i-test.true, b.loop-i.auto.out)

  goes_on : (e : ℕ) → b.put_step.result ≡ Continue e → (left_of o ≡ Some e) × (number_of o ≡ 0)
  goes_on e h = at_left o e part (sym b.put_step.ensures.value ∙ h)

  is_over : (n : ℕ) → b.put_step.result ≡ Break n → (left_of o ≡ None) × (n ≡ number_of o)
  is_over n h =
      let p = over_left o n part (sym b.put_step.ensures.value ∙ h) in
      (p.0, p.1 ∙ returned_room part (omega (arith, mid_len from (from + record_size) b.loop-i.out within)) o)

  room_is : room - b.loop-i.i ≡ suc (room - (b.loop-i.i + 1))
  room_is = omega (arith, b.loop-i-test.true)

  -- the buffer with this record in it
  abbrev after : List ℕ
  after = put_mid from (from + record_size - from) b.loop-i.out b.put_step.new.out

  after_is : after ≡ sets b.loop-i.out from (bytes_of (words o))
  after_is =
      ap (put_mid from (from + record_size - from) b.loop-i.out) b.put_step.ensures.out_after
      ∙ put_part (words o) b.loop-i.out from (words_all o) within

  -- the records behind this one stored behind it
  stored : (os : List (Outcome Item)) → step_run b.args.limit (room - b.loop-i.i) b.args.rules b.args.map.now b.loop-i.at b.args.end ≡ o ∷ os → sets after ((b.loop-i.i + 1) * record_size) (bytes_of (all_words os)) ≡ sets b.args.out.now 0 (bytes_of (all_words (step_run b.args.limit room b.args.rules b.args.map.now b.args.position b.args.end)))
  stored os h =
      let k : (b.loop-i.i + 1) * record_size ≡ from + record_size = omega arith in
      ap (λ (x : List ℕ). sets x ((b.loop-i.i + 1) * record_size) (bytes_of (all_words os))) after_is
      ∙ ap (λ (i : ℕ). sets (sets b.loop-i.out from (bytes_of (words o))) i (bytes_of (all_words os))) k
      ∙ next_record b.loop-i.out from o os
      ∙ sym (ap (λ (xs : List (Outcome Item)). sets b.loop-i.out from (bytes_of (all_words xs))) h)
      ∙ b.loop-i.invariant.stored

pub loop-i-preserved : goal.loop-i-preserved
loop-i-preserved c =
    let b = (goal.at.loop-i-preserved c).After-put_step in
    let a = c.args in
    let l = c.loop-i in
    let e = c.in-Continue.next in
    let h = goes_on b e c.in-Continue.is in
    let os = step_run a.limit (room b - (l.i + 1)) a.rules a.map.now e a.end in
    let m = one_more a.limit a.rules a.map.now l.at a.end (room_is b) e h.0 in
    record {
      order = left_in a.limit a.rules a.map.now l.at a.end l.invariant.order c.requires.2 e h.0;
      stored = stored b os m;
      counted = omega (arith, l.invariant.counted, ap length m);
      last = sym (ap (λ (n : ℕ). last_number n os) h.1) ∙ sym (ap (last_number 0) m) ∙ l.invariant.last;
    }

pub returns-in-Break : goal.returns-in-Break
returns-in-Break c =
    let b = (goal.at.returns-in-Break c).After-put_step in
    let a = c.args in
    let l = c.loop-i in
    let h = is_over b c.in-Break.number c.in-Break.is in
    let m = the_last a.limit a.rules a.map.now l.at a.end (room_is b) h.0 in
    record {
      count_value = omega (arith, l.invariant.counted, ap length m);
      number_value = h.1 ∙ sym (ap (last_number 0) m) ∙ l.invariant.last;
      out_after = stored b [] m;
    }

pub returns : goal.returns
returns c =
    let a = c.args in
    let l = c.loop-i in
    let z : length a.out.now / record_size - l.i ≡ 0 = omega (arith, c.loop-i-test.false) in
    let m = none_left a.limit a.rules a.map.now l.at a.end z in
    record {
      count_value = omega (arith, l.invariant.counted, ap length m);
      number_value = sym (ap (last_number 0) m) ∙ l.invariant.last;
      out_after = sym (ap (λ (os : List (Outcome Item)). sets l.out (l.i * record_size) (bytes_of (all_words os))) m) ∙ l.invariant.stored;
    }
