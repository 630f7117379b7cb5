-- What the private functions of timestamp.rt answer; callers of the crate need none of this.
-- Assumes nothing.
use Rattle.std.specs.Prelude.{ℕ, ◌^◌, ◌≤◌, ◌<◌, ◌≡◌, true, List, Option, None, Some, Result, leb}
use Rattle.numbers.specs.Outcome.{Outcome, gives, pick, and_then, refuse_if}
use Rattle.numbers.specs.Read.{outcome}
use Rattle.numbers.specs.declared.refusal.Refusal.{Refusal}
use Rattle.bodies.specs.Decimal.{decimal}
use Rattle.timestamps.specs.Timestamp.{Fraction, Values, fields_of, fraction_from, too_wide}
use Rattle.timestamps.specs.TimestampMeaning.{absent_fraction}
use Rattle.timestamps.specs.declared.timestamp.Fields.{Fields}
use Rattle.timestamps.specs.declared.timestamp.FieldsRead.{FieldsRead}
use Rattle.timestamps.specs.declared.timestamp.Fraction.{Fraction as Given}

-- six fields at most were read, and a month or a day that was not read is 0
pub record Filled (f : Fields) : Type 0 where
  pub most : f.count ≤ 6
  pub month : f.count < 2 → f.month ≡ 0
  pub day : f.count < 3 → f.day ≡ 0

-- a fraction that is there, and none
abbrev pub fraction_read : Option Given → Fraction
fraction_read None = absent_fraction
fraction_read (Some f) =
    record {
      present = true;
      exponent_negative = f.exponent_negative;
      exponent = f.exponent;
      negative = f.negative;
      coefficient = f.coefficient;
    }

-- the fields of values, and where these end
unfoldable pub fields_given : Outcome Values → Outcome FieldsRead
fields_given o = and_then o (λ v. gives (record { fields = fields_of v.values; next = v.next }))

abbrev pub fields_read : Result FieldsRead Refusal → Outcome FieldsRead
fields_read = outcome (λ f. f)

-- a magnitude, if eight bytes hold it
unfoldable pub magnitude_answer : ℕ → Option ℕ
magnitude_answer m = pick (leb (256 ^ 8) m) None (Some m)

-- a fraction whose coefficient's magnitude eight bytes hold, and the refusal of another
abbrev pub measured : ℕ → Fraction → Outcome Fraction
measured descriptor f = refuse_if (too_wide f) 63 descriptor (gives f)

-- the fraction in the bytes from `at` on, measured
unfoldable pub measured_from : ℕ → List ℕ → ℕ → ℕ → Outcome Fraction
measured_from descriptor s end at = and_then (decimal s at end) (λ d. measured descriptor (fraction_from s end at d))
