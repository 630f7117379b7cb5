-- The tests of a timestamp's ranges are the ranges of specs/TimestampMeaning.antt, in both directions.
-- Assumes nothing.
use Prim.Native.Nat.{ℕ, ◌*◌, ◌^◌, ◌≤◌, ◌<◌}
use native.Mathlib.Omega.{arith}
use native.Mathlib.Nat.{mul-le-mul_right}
use mathlib.Core.Path.{◌≡◌, refl, sym}
use mathlib.Core.Bool.{Bool, true, false, true≢false}
use lib.Dec.{eqb, leb, ltb}
use borrow.Author.Tests.{ne_eqb, eqb-true, eqb-false, ltb-true, ltb-false, le-ltb, leb-false, lt-leb}
use Rattle.numbers.specs.Outcome.{pick}
use Rattle.numbers.proofs.Outcomes.{by_case}
use Rattle.timestamps.specs.Calendar.{days_in, DaysOf}
use Rattle.timestamps.specs.Timestamp.{Encoded, out_of, year_out, month_out, day_out, date_out, time_out, fraction_out, offset_out, out_of_range}
use Rattle.timestamps.specs.TimestampMeaning.{Between, FieldsWithin, FractionWithin, Within}
use Rattle.timestamps.specs.declared.timestamp.Fields.{Fields}
use Rattle.timestamps.specs.declared.timestamp.Offset.{Offset}
use Rattle.timestamps.specs.Timestamp.{Fraction}
use Rattle.timestamps.specs.Private.Reading.{Filled}
use Rattle.timestamps.proofs.Gregorian.{months-sound, months-complete, days_most}
use Rattle.timestamps.proofs.Powers.{power_positive}

-- two tests, neither of which holds
both_false : (t : Bool) {r : Bool} → pick t true r ≡ false → (t ≡ false) × (r ≡ false)
both_false true h = absurd (true≢false h)
both_false false h = (refl, h)

-- a test after which there is another
second_false : (t : Bool) {r : Bool} → pick t false r ≡ false → t ≡ false → r ≡ false
second_false true h e = absurd (true≢false e)
second_false false h e = h

between : (low high value : ℕ) → out_of low high value ≡ false → Between low high value
between low high value h =
    let b = both_false (ltb value low) h in
    record { least = ltb-false value low b.0; most = ltb-false high value b.1 }

between_test : {low high value : ℕ} → Between low high value → out_of low high value ≡ false
between_test {low} {high} {value} b = rw (le-ltb value low b.least, le-ltb high value b.most)

-- the date's tests one after the other
record DateWithin (f : Fields) : Type 0 where
  year : Between 1 9999 f.year
  month : 2 ≤ f.count → Between 1 12 f.month
  day : 3 ≤ f.count → (days : ℕ) × DaysOf f.year f.month days × Between 1 days f.day

date_sound : (f : Fields) → date_out f ≡ false → DateWithin f
unfolding date_out year_out month_out day_out
date_sound f h =
    let y = both_false (year_out f) h in
    let m : 2 ≤ f.count → (month_out f ≡ false) × (pick (ltb f.count 3) false (day_out f) ≡ false) = λ l. both_false (month_out f) (second_false (ltb f.count 2) y.1 (le-ltb f.count 2 l)) in
    record {
      year = between _ _ _ y.0;
      month = λ l. between _ _ _ (m l).0;
      day = λ l.
          let k : 2 ≤ f.count = omega arith in
          let b : Between 1 12 f.month = between _ _ _ (m k).0 in
          (days_in f.year f.month, months-sound f.year f.month b.least b.most, between _ _ _ (second_false (ltb f.count 3) (m k).1 (le-ltb f.count 3 l)));
    }

date_complete : (f : Fields) → DateWithin f → date_out f ≡ false
unfolding date_out year_out month_out day_out
date_complete f w =
    rw (between_test w.year)
    (by_case (ltb f.count 2) (λ t. rw t) (λ t.
    rw (t, between_test (w.month (ltb-false f.count 2 t)))
    (by_case (ltb f.count 3) (λ u. rw u) (λ u.
    let d = w.day (ltb-false f.count 3 u) in
    rw (u, months-complete f.year f.month d.0 d.1) (between_test d.2)))))

fields_sound : (f : Fields) → date_out f ≡ false → time_out f ≡ false → FieldsWithin f
unfolding time_out
fields_sound f h k =
    let d = date_sound f h in
    let t = both_false (ltb 23 f.hour) k in
    let u = both_false (ltb 59 f.minute) t.1 in
    record {
      year = d.year;
      month = d.month;
      day = d.day;
      hour = ltb-false _ _ t.0;
      minute = ltb-false _ _ u.0;
      second = ltb-false _ _ u.1;
    }

date_of : {f : Fields} → FieldsWithin f → DateWithin f
date_of w = record { year = w.year; month = w.month; day = w.day }

time_complete : (f : Fields) → FieldsWithin f → time_out f ≡ false
unfolding time_out
time_complete f w = rw (le-ltb 23 f.hour w.hour, le-ltb 59 f.minute w.minute) (le-ltb 59 f.second w.second)

-- zero is in range at any exponent
zero_within : (f : Fraction) → f.coefficient ≡ 0 → FractionWithin f
zero_within f e =
    record { least = λ _. e; most = rw e (omega (arith, power_positive (pick f.exponent_negative f.exponent 0))) }

-- by the signs of the coefficient and of its exponent
module _ (present : Bool) (x c : ℕ) where
  abbrev signed : Bool → Bool → Fraction
  signed negative down =
      record { present = present; exponent_negative = down; exponent = x; negative = negative; coefficient = c }

  fraction_sound : (negative down : Bool) → (c ≡ 0 → ⊥) → fraction_out (signed negative down) ≡ false → FractionWithin (signed negative down)
  unfolding fraction_out
  fraction_sound true down z h = absurd (true≢false (rw (ne_eqb c 0 z) at h))
  fraction_sound false true z h =
      let l : leb (10 ^ x) c ≡ false = rw (ne_eqb c 0 z) at h in
      record { least = λ n. absurd (true≢false (sym n)); most = omega (arith, leb-false (10 ^ x) c l) }
  fraction_sound false false z h = absurd (true≢false (rw (ne_eqb c 0 z) at h))

  fraction_complete : (negative down : Bool) → (c ≡ 0 → ⊥) → FractionWithin (signed negative down) → fraction_out (signed negative down) ≡ false
  unfolding fraction_out
  fraction_complete true down z w = absurd (z (w.least refl))
  fraction_complete false true z w =
      rw (ne_eqb c 0 z) (lt-leb (10 ^ x) c (let e : c * 1 < 10 ^ x = w.most in omega arith))
  fraction_complete false false z w =
      let e : c * 10 ^ x < 1 = w.most in
      let l : 1 ≤ c = omega arith in
      let m : 1 * 10 ^ x ≤ c * 10 ^ x = mul-le-mul_right (10 ^ x) l in
      absurd (omega (arith, power_positive x))

fraction_within : (f : Fraction) → fraction_out f ≡ false → FractionWithin f
fraction_within f h =
    by_case (eqb f.coefficient 0) (λ z. zero_within f (eqb-true f.coefficient 0 z)) (λ z.
    fraction_sound f.present f.exponent f.coefficient f.negative f.exponent_negative (eqb-false f.coefficient 0 z) h)

fraction_test : (f : Fraction) → FractionWithin f → fraction_out f ≡ false
unfolding fraction_out
fraction_test f w =
    by_case (eqb f.coefficient 0) (λ z. rw z) (λ z.
    fraction_complete f.present f.exponent f.coefficient f.negative f.exponent_negative (eqb-false f.coefficient 0 z) w)

pub within_sound : (e : Encoded) → out_of_range e ≡ false → Within e
unfolding out_of_range offset_out
within_sound e h =
    let o = both_false (offset_out e.offset) h in
    let d = both_false (date_out e.fields) o.1 in
    let t = both_false (time_out e.fields) d.1 in
    record {
      offset = ltb-false _ _ o.0;
      fields = fields_sound e.fields d.0 t.0;
      fraction = fraction_within e.fraction t.1;
    }

pub within_complete : (e : Encoded) → Within e → out_of_range e ≡ false
unfolding out_of_range offset_out
within_complete e w =
    rw
    (le-ltb _ _ w.offset, date_complete e.fields (date_of w.fields), time_complete e.fields w.fields, fraction_test e.fraction w.fraction)

-- a month and a day, absent ones too, fit a byte
pub month_most : {f : Fields} → Filled f → FieldsWithin f → f.month ≤ 12
month_most {f} l w =
    by_case (ltb f.count 2)
    (λ t. omega (arith, l.month (ltb-true f.count 2 t)))
    (λ t. (w.month (ltb-false f.count 2 t)).most)

pub day_most : {f : Fields} → Filled f → FieldsWithin f → f.day ≤ 31
day_most {f} l w =
    by_case (ltb f.count 3)
    (λ t. omega (arith, l.day (ltb-true f.count 3 t)))
    (λ t.
    let d = w.day (ltb-false f.count 3 t) in
    omega (arith, months-complete f.year f.month d.0 d.1, days_most f.year f.month, d.2.most))

-- the same of what passes the tests, as the tactics are to have it
module _ (o : Offset) (f : Fields) (x : Fraction) (h : out_of_range (record { offset = o; fields = f; fraction = x }) ≡ false) where
  pub offset_fits : o.minutes ≤ 1439
  offset_fits = (within_sound _ h).offset

  pub year_fits : f.year ≤ 9999
  year_fits = (within_sound _ h).fields.year.most

  pub month_fits : Filled f → f.month ≤ 12
  month_fits l = month_most l (within_sound _ h).fields

  pub day_fits : Filled f → f.day ≤ 31
  day_fits l = day_most l (within_sound _ h).fields

  pub hour_fits : f.hour ≤ 23
  hour_fits = (within_sound _ h).fields.hour

  pub minute_fits : f.minute ≤ 59
  minute_fits = (within_sound _ h).fields.minute

  pub second_fits : f.second ≤ 59
  second_fits = (within_sound _ h).fields.second

pub ruleset fields_fit = (offset_fits, year_fits, month_fits, day_fits, hour_fits, minute_fits, second_fits)
