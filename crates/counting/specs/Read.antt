-- What the types of this layer say in the papers' terms.
-- Assumes nothing.
use Rattle.stepping.specs.Read.{item_read}
use Rattle.counting.specs.Counted.{Counted}
use Rattle.counting.specs.Bounded.{Bounded, reached, more, BoundedStepped}
use Rattle.counting.specs.declared.counted.Counted.{Counted as CountedStruct}
use Rattle.counting.specs.declared.counted.Bounded.{Bounded as BoundedEnum}
use Rattle.counting.specs.declared.counted.Bounded.TheVariants.{Reached, More}
use Rattle.counting.specs.declared.counted.BoundedStep.{BoundedStep}

abbrev pub counted_read : CountedStruct → Counted
counted_read r = record { answer = item_read r.item; pads = r.pads; names = r.names }

abbrev pub bounded_read : BoundedEnum → Bounded
bounded_read (Reached c) = reached (counted_read c)
bounded_read (More n p) = more n p

abbrev pub bounded_step_read : BoundedStep → BoundedStepped
bounded_step_read r = record { answer = bounded_read r.answer; next = r.next }
