-- What each reading of this layer says in the scope paper's terms.
-- Assumes nothing.
use Rattle.std.specs.Prelude.{Result}
use Rattle.numbers.specs.Outcome.{Outcome}
use Rattle.numbers.specs.Read.{outcome}
use Rattle.numbers.specs.declared.refusal.Refusal.{Refusal}
use Rattle.framing.specs.Read.{spans_of}
use Rattle.values.specs.Scalars.{Opened, ReadValue, Scalar, null, bool, int, float, decimal, timestamp, symbol, string, clob, blob, container}
use Rattle.values.specs.Timestamps.{Dated, stamped, other}
use Rattle.values.specs.declared.value.Body.{Body}
use Rattle.values.specs.declared.value.Scalar.{Scalar as ScalarEnum}
use Rattle.values.specs.declared.value.Scalar.TheVariants.{Null, Bool, Int, Float, Decimal, Timestamp, Symbol, Text, Clob, Blob, Container}
use Rattle.values.specs.declared.value.TimestampRead.{TimestampRead}
use Rattle.values.specs.declared.value.TimestampRead.TheVariants.{Stamped, Other}
use Rattle.values.specs.declared.value.ValueRead.{ValueRead}

abbrev pub opened_of : Body → Opened
opened_of b = record { rules = b.rules; body = b.cursor.at; end = b.cursor.end }

abbrev pub body_read : Result Body Refusal → Outcome Opened
body_read = outcome opened_of

abbrev pub scalar_told : ScalarEnum → Scalar
scalar_told (Null t) = null t
scalar_told (Bool b) = bool b
scalar_told (Int n m) = int n m.start m.end
scalar_told (Float w) = float w
scalar_told (Decimal b) = decimal b.start b.end
scalar_told (Timestamp b) = timestamp b.start b.end
scalar_told (Symbol i) = symbol i
scalar_told (Text b) = string b.start b.end
scalar_told (Clob b) = clob b.start b.end
scalar_told (Blob b) = blob b.start b.end
scalar_told Container = container

abbrev pub scalar_read : Result ScalarEnum Refusal → Outcome Scalar
scalar_read = outcome scalar_told

abbrev pub value_told : ValueRead → ReadValue
value_told r = record { value = spans_of r.value; scalar = scalar_read r.scalar }

abbrev pub value_read : Result ValueRead Refusal → Outcome ReadValue
value_read = outcome value_told

abbrev pub dated_of : TimestampRead → Dated
dated_of (Stamped d t) = stamped d t
dated_of (Other v x) = other (spans_of v) (scalar_told x)

abbrev pub dated_read : Result TimestampRead Refusal → Outcome Dated
dated_read = outcome dated_of
