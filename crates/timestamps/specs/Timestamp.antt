-- A timestamp's body: the Ion document's "6: timestamp", and what reading it answers by paper 02's A.4.
-- Assumes nothing.
use Rattle.std.specs.Prelude.{ℕ, zero, suc, ◌+◌, ◌-◌, ◌^◌, Bool, true, false, List, [], ◌∷◌, Result, length, get_or, eqb, leb, ltb}
use Rattle.numbers.specs.Format.{of_digits}
use Rattle.numbers.specs.Outcome.{Outcome, gives, pick, refuse_if, and_then}
use Rattle.numbers.specs.Bytes.{part}
use Rattle.numbers.specs.Answers.{Unsigned, Signed, var_uint, var_int}
use Rattle.numbers.specs.Read.{outcome}
use Rattle.numbers.specs.declared.refusal.Refusal.{Refusal}
use Rattle.bodies.specs.Decimal.{Split, decimal}
use Rattle.timestamps.specs.Calendar.{days_in}
use Rattle.timestamps.specs.declared.timestamp.Offset.{Offset}
use Rattle.timestamps.specs.declared.timestamp.Fields.{Fields}
use Rattle.timestamps.specs.declared.timestamp.Stamp.{Stamp}

-- values that are read one after the other, and where they end
pub record Values : Type 0 where
  pub values : List ℕ
  pub next : ℕ

-- a value, and those after it
abbrev pub before : ℕ → Values → Outcome Values
before value v = gives (record { values = value ∷ v.values; next = v.next })

unfoldable pub after_value : (ℕ → Outcome Values) → ℕ → Unsigned → Outcome Values
after_value more end u =
    pick (eqb u.next end) (gives (record { values = u.value ∷ []; next = end })) (and_then (more u.next) (before u.value))

-- "Fields are read in order": n VarUInts, or as many as there are up to the end, but one at least.
unfoldable pub fields_from : ℕ → List ℕ → ℕ → ℕ → Outcome Values
fields_from zero s end at = gives (record { values = []; next = at })
fields_from (suc n) s end at = and_then (var_uint s at end) (after_value (fields_from n s end) end)

-- "6: timestamp": year, month, day, hour, minute and second in this order; absent ones are 0
unfoldable pub fields_of : List ℕ → Fields
fields_of values =
    record {
      count = length values;
      year = get_or values 0 0;
      month = get_or values 1 0;
      day = get_or values 2 0;
      hour = get_or values 3 0;
      minute = get_or values 4 0;
      second = get_or values 5 0;
    }

-- whether there is a fraction, its exponent, and its coefficient's sign and magnitude
pub record Fraction : Type 0 where
  pub present : Bool
  pub exponent_negative : Bool
  pub exponent : ℕ
  pub negative : Bool
  pub coefficient : ℕ

-- what is encoded: an offset, these fields, and a fraction
pub record Encoded : Type 0 where
  pub offset : Offset
  pub fields : Fields
  pub fraction : Fraction

-- the fraction is the decimal in the bytes that the fields leave, from `at` on; where they leave none, it is absent and zero
abbrev pub fraction_from : List ℕ → ℕ → ℕ → Split → Fraction
fraction_from s end at d =
    record {
      present = ltb at end;
      exponent_negative = d.exponent_negative;
      exponent = d.exponent;
      negative = d.coefficient.negative;
      coefficient = of_digits 256 (d.coefficient.first ∷ part s d.coefficient.rest d.coefficient.end);
    }

unfoldable pub with_fraction : List ℕ → ℕ → ℕ → Offset → Fields → Split → Outcome Encoded
with_fraction s end at offset fields d =
    gives (record { offset = offset; fields = fields; fraction = fraction_from s end at d })

unfoldable pub with_decimal : List ℕ → ℕ → ℕ → Offset → Fields → Outcome Encoded
with_decimal s end at offset fields = and_then (decimal s at end) (with_fraction s end at offset fields)

unfoldable pub with_values : List ℕ → ℕ → Offset → Values → Outcome Encoded
with_values s end offset v = with_decimal s end v.next offset (fields_of v.values)

unfoldable pub with_offset : List ℕ → ℕ → Signed → Outcome Encoded
with_offset s end o =
    and_then (fields_from 6 s end o.next) (with_values s end (record { negative = o.negative; minutes = o.magnitude }))

unfoldable pub encoded : List ℕ → ℕ → ℕ → Outcome Encoded
encoded s start end = and_then (var_int s start end) (with_offset s end)

-- "year is 1 to 9999, month 1 to 12, day as in the Gregorian month"
abbrev pub out_of : ℕ → ℕ → ℕ → Bool
out_of low high value = pick (ltb value low) true (ltb high value)

unfoldable pub year_out : Fields → Bool
year_out f = out_of 1 9999 f.year

unfoldable pub month_out : Fields → Bool
month_out f = out_of 1 12 f.month

unfoldable pub day_out : Fields → Bool
day_out f = out_of 1 (days_in f.year f.month) f.day

-- a month and a day only where they are there
unfoldable pub date_out : Fields → Bool
date_out f =
    pick (year_out f) true
    (pick (ltb f.count 2) false
    (pick (month_out f) true
    (pick (ltb f.count 3) false
    (day_out f))))

-- "hour to 23, minute and second to 59"; absent ones are 0
unfoldable pub time_out : Fields → Bool
time_out f = pick (ltb 23 f.hour) true (pick (ltb 59 f.minute) true (ltb 59 f.second))

-- "A fraction is its coefficient times ten to its exponent, at least 0 and below 1; a zero coefficient is zero at any exponent."
unfoldable pub fraction_out : Fraction → Bool
fraction_out f =
    pick (eqb f.coefficient 0) false
    (pick f.negative true (pick f.exponent_negative (leb (10 ^ f.exponent) f.coefficient) true))

-- "offset -1439 to 1439"
unfoldable pub offset_out : Offset → Bool
offset_out o = ltb 1439 o.minutes

unfoldable pub out_of_range : Encoded → Bool
out_of_range e =
    pick (offset_out e.offset) true
    (pick (date_out e.fields) true (pick (time_out e.fields) true (fraction_out e.fraction)))

-- 1 year, 2 month, 3 day, 4 minute, 5 second, 6 fraction: an hour stands with its minute
unfoldable pub precision_of : ℕ → Bool → ℕ
precision_of fields fraction = pick fraction 6 (pick (ltb 3 fields) (fields - 1) fields)

-- "The offset is unknown where its VarInt is negative zero, and .. where no hour follows": 0; otherwise its minutes and 1440.
unfoldable pub offset_of : Offset → ℕ → ℕ
offset_of o fields =
    pick (ltb fields 4) 0 (pick o.negative (pick (eqb o.minutes 0) 0 (1440 - o.minutes)) (1440 + o.minutes))

-- "Answer offset minutes or unknown, then the UTC fields present, to the fraction's coefficient and exponent"; absent fields are 0
unfoldable pub stamp_of : Encoded → Stamp
stamp_of e =
    record {
      precision = precision_of e.fields.count e.fraction.present;
      offset = offset_of e.offset e.fields.count;
      year = e.fields.year;
      month = e.fields.month;
      day = e.fields.day;
      hour = e.fields.hour;
      minute = e.fields.minute;
      second = e.fields.second;
      exponent_negative = e.fraction.exponent_negative;
      exponent = e.fraction.exponent;
      coefficient = e.fraction.coefficient;
    }

-- "62 a field, offset or fraction out of range, after all fields are read .. at the descriptor"
unfoldable pub ranged : ℕ → Encoded → Outcome Stamp
ranged descriptor e = refuse_if (out_of_range e) 62 descriptor (gives (stamp_of e))

-- "an hour with no minute, when the body ends there": the hour is the fourth field
unfoldable pub hour_alone : Fields → Bool
hour_alone f = eqb f.count 4

-- "a coefficient whose magnitude has over 8 bytes without leading zeros"
unfoldable pub too_wide : Fraction → Bool
too_wide f = leb (256 ^ 8) f.coefficient

-- 61, then "63 .. just before 62"
unfoldable pub judged : ℕ → Encoded → Outcome Stamp
judged descriptor e =
    refuse_if (hour_alone e.fields) 61 descriptor (refuse_if (too_wide e.fraction) 63 descriptor (ranged descriptor e))

-- the timestamp whose body is start..end and whose descriptor stands there
unfoldable pub timestamp : ℕ → List ℕ → ℕ → ℕ → Outcome Stamp
timestamp descriptor s start end = and_then (encoded s start end) (judged descriptor)

-- what each answer of the reading says in these terms
abbrev pub timestamp_read : Result Stamp Refusal → Outcome Stamp
timestamp_read = outcome (λ t. t)
