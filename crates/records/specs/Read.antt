-- What a number of this layer says in the scope paper's terms.
-- Assumes nothing.
use Rattle.std.specs.Prelude.{Result}
use Rattle.numbers.specs.Outcome.{Outcome}
use Rattle.numbers.specs.Read.{outcome}
use Rattle.numbers.specs.declared.refusal.Refusal.{Refusal}
use Rattle.records.specs.FirstWords.{Number}
use Rattle.records.specs.declared.number.Number.{Number as NumberStruct}

abbrev pub number_as : NumberStruct → Number
number_as n = record { negative = n.negative; value = n.value; rest = n.rest; end = n.end }

abbrev pub number_read : Result NumberStruct Refusal → Outcome Number
number_read r = outcome number_as r
