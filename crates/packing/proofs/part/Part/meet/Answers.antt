-- `meet` meets its contract: a value that is met lies where the step's answer does.
use Rattle.framing.specs.Read.{spans_of}
use Rattle.packing.proofs.Places.{value_lies, field_lies}
use Rattle.packing.proofs.part.Part.meet.Goals as goal

pub invariant_of-result : goal.invariant_of-result
invariant_of-result c =
    let p = c.args.self.now in
    let m = c.in-Ok-Value in
    let h = value_lies p.limit p.rules p.s.now c.args.at p.end (spans_of m.value) (rw m.field-0-is at m.ensures) in
    record { named = h.named; started = h.started; annotated = h.annotated; bodied = h.bodied; ended = h.ended; in_map = h.in_map; short = h.short }

pub invariant_of-result-in-Ok-Field : goal.invariant_of-result-in-Ok-Field
invariant_of-result-in-Ok-Field c =
    let p = c.args.self.now in
    let m = c.in-Ok-Field in
    let h = field_lies p.limit p.rules p.s.now c.args.at p.end m.field-0-0 m.start (spans_of m.value) (rw m.field-0-is at m.ensures) in
    record { named = h.named; started = h.started; annotated = h.annotated; bodied = h.bodied; ended = h.ended; in_map = h.in_map; short = h.short }

pub returns-in-Ok-Value-clause-fits : goal.returns-in-Ok-Value-clause-fits
returns-in-Ok-Value-clause-fits c =
    let p = c.args.self.now in
    let m = c.in-Ok-Value in
    let h = value_lies p.limit p.rules p.s.now c.args.at p.end (spans_of m.value) (rw m.field-0-is at m.ensures) in
    (h.low, h.within)
