-- What the loop of `put_steps` keeps: with the records of the steps that are left stored from here on, the buffer is what it is to be.
use Prim.Native.Nat.{◌+◌, ◌-◌, ◌*◌, ◌≤◌}
use mathlib.Core.Path.{◌≡◌}
use lib.ListN.{length}
use lib.Seq.{sets}
use Rattle.records.specs.Buffer.{bytes_of, record_size}
use Rattle.batches.specs.Steps.{all_words, last_number}
use Rattle.batches.specs.Private.Run.{step_run}
use Rattle.batches.proofs.steps.put_steps.Given as goal

abbrev pub invariant-loop-i : goal.invariant-loop-i
invariant-loop-i l =
    let all = step_run l.limit l.room l.rules l.map l.position l.end in
    let left = step_run l.limit (l.room - l.i) l.rules l.map l.at l.end in
    record {
      order : l.at ≤ l.end;
      stored : sets l.out (l.i * record_size) (bytes_of (all_words left)) ≡ sets l.initial.out 0 (bytes_of (all_words all));
      counted : l.i + length left ≡ length all;
      last : last_number 0 left ≡ last_number 0 all;
    }
