-- What is made of the offset, the fields and the fraction that were read is the definition's answer.
-- Assumes nothing.
use Prim.Native.Nat.{ℕ, ◌-◌, ◌^◌, ◌≤◌, ◌<◌}
use native.Mathlib.Omega.{arith}
use borrow.Author.Tests.{eq-eqb, ne_eqb, ltb-true, ltb-false, le-ltb, lt-ltb}
use mathlib.Core.Path.{◌≡◌, refl, ◌∙◌, sym, ap}
use mathlib.Core.Bool.{true, false}
use mathlib.Core.List.{List, ◌∷◌}
use lib.ListN.{length, take, drop}
use lib.Dec.{leb, ltb}
use Rattle.std.specs.Prelude.{None, Some}
use Rattle.numbers.specs.Format.{of_digits}
use Rattle.numbers.specs.Outcome.{Outcome, gives, refuses, and_then}
use Rattle.numbers.specs.Bytes.{part}
use Rattle.numbers.specs.Answers.{Signed, var_int}
use Rattle.numbers.proofs.Outcomes.{by_case, by_test, refuse_first}
use Rattle.numbers.proofs.Meaning.{var_int_at}
use Rattle.numbers.proofs.Parts.{part_none, part_taken}
use Rattle.bodies.specs.Decimal.{Split, decimal, split_read}
use Rattle.bodies.specs.declared.decimal.Decimal.{Decimal}
use Rattle.bodies.proofs.Splitting.{rest_within}
use Rattle.timestamps.specs.Timestamp.{fraction_from, with_fraction, with_decimal, with_values, with_offset, encoded, too_wide, hour_alone, ranged, judged, timestamp}
use Rattle.timestamps.specs.Timestamp.{fields_from, fields_of}
use Rattle.timestamps.specs.TimestampMeaning.{absent_fraction}
use Rattle.timestamps.specs.Private.Reading.{Filled, fields_given, magnitude_answer, measured, measured_from}
use Rattle.timestamps.specs.declared.timestamp.Offset.{Offset}
use Rattle.timestamps.specs.declared.timestamp.Fields.{Fields}
use Rattle.timestamps.proofs.Stamping.{Behind, fields_behind, none_behind, fraction_none}
use Rattle.timestamps.specs.declared.timestamp.FieldsRead.{FieldsRead}
use Rattle.timestamps.specs.Timestamp.{Fraction}
use Rattle.numbers.specs.declared.var_int.VarInt.{VarInt}
use Rattle.timestamps.proofs.FieldReading.{FieldsFound, fields_found, fields_cut, filled}

-- where no bytes are left, there is no fraction
pub fraction_absent : (descriptor : ℕ) (s : List ℕ) (at end : ℕ) → at ≡ end → end ≤ length s → gives absent_fraction ≡ measured_from descriptor s end at
unfolding too_wide of_digits measured_from
fraction_absent descriptor s at end e k = rw (e, none_behind s end k, part_none s end, le-ltb end end (omega arith))

-- a magnitude that eight bytes hold, and one that they don't
pub magnitude_held : (m k : ℕ) → magnitude_answer m ≡ Some k → (leb (256 ^ 8) m ≡ false) × (m ≡ k)
unfolding magnitude_answer
magnitude_held m k = by_test (λ a. a ≡ Some k → (leb (256 ^ 8) m ≡ false) × (m ≡ k)) (leb (256 ^ 8) m) (λ t e. cc) (λ t e. (t, cc))

pub magnitude_long : (m : ℕ) → magnitude_answer m ≡ None → leb (256 ^ 8) m ≡ true
unfolding magnitude_answer
magnitude_long m = by_test (λ a. a ≡ None → leb (256 ^ 8) m ≡ true) (leb (256 ^ 8) m) (λ t e. t) (λ t e. cc)

-- a decimal that was read, as a fraction: its coefficient is measured
module _ (descriptor : ℕ) (s : List ℕ) (at end : ℕ) (d : Decimal) (h : decimal s at end ≡ gives (split_read d)) where
  abbrev digits : List ℕ
  digits = take (d.coefficient.end - d.coefficient.rest) (drop d.coefficient.rest s)

  digits_are : digits ≡ part s d.coefficient.rest d.coefficient.end
  digits_are = let r = rest_within s at end (split_read d) h in part_taken s _ _ r.order r.within

  pub fraction_held : (c : ℕ) → at < end → magnitude_answer (of_digits 256 (d.coefficient.first ∷ digits)) ≡ Some c → gives (record { present = true; exponent_negative = d.exponent_negative; exponent = d.exponent; negative = d.coefficient.negative; coefficient = c }) ≡ measured_from descriptor s end at
  unfolding too_wide measured_from
  fraction_held c l m =
      let q = magnitude_held (of_digits 256 (d.coefficient.first ∷ part s d.coefficient.rest d.coefficient.end)) c (rw digits_are at m) in
      rw (h, q.0, lt-ltb at end l, q.1)

  pub fraction_long : magnitude_answer (of_digits 256 (d.coefficient.first ∷ digits)) ≡ None → refuses 63 descriptor ≡ measured_from descriptor s end at
  unfolding too_wide measured_from
  fraction_long m = rw (h, magnitude_long (of_digits 256 (d.coefficient.first ∷ part s d.coefficient.rest d.coefficient.end)) (rw digits_are at m))

pub ruleset fraction_told = (fraction_absent, fraction_held, fraction_long)

-- where no hour stands alone, a measured fraction is judged by the ranges alone
measured_judged : (descriptor : ℕ) (s : List ℕ) (at end : ℕ) (o : Offset) (f : Fields) (x : Outcome Split) → (f.count ≡ 4 → ⊥) → and_then (and_then x (λ d. measured descriptor (fraction_from s end at d))) (λ y. ranged descriptor (record { offset = o; fields = f; fraction = y })) ≡ and_then (and_then x (with_fraction s end at o f)) (judged descriptor)
unfolding with_fraction judged hour_alone
measured_judged descriptor s at end o f (gives d) n =
    rw (ne_eqb f.count 4 n)
    (refuse_first (too_wide (fraction_from s end at d)) 63 descriptor (gives (fraction_from s end at d)) (λ y. ranged descriptor (record { offset = o; fields = f; fraction = y })))
measured_judged descriptor s at end o f (refuses n p) k = refl

module _ (descriptor : ℕ) (s : List ℕ) (start end : ℕ) (i : Signed) (h : var_int s start end ≡ gives i) (f : Fields) (at : ℕ) (r : FieldsFound (fields_from 6 s end i.next) f at) where
  abbrev offset : Offset
  offset = record { negative = i.negative; minutes = i.magnitude }

  behind : Behind s end (record { values = r.values; next = at })
  behind =
      let n = var_int_at s start end h in
      fields_behind s end i.next (record { values = r.values; next = at })
      (omega (arith, ap (λ (x : Signed). x.next) n.is, n.number.ends)) n.number.within r.is

  within : end ≤ length s
  within = (var_int_at s start end h).number.within

  count_is : f.count ≡ length r.values
  unfolding fields_of
  count_is = ap (λ (x : Fields). x.count) r.fields

  decided : timestamp descriptor s start end ≡ and_then (with_decimal s end at offset f) (judged descriptor)
  unfolding timestamp encoded with_offset with_values
  decided = rw (h, r.is, ← r.fields)

  -- an hour stands alone, and behind it there is nothing
  hour_found : f.count ≡ 4 → refuses 61 descriptor ≡ timestamp descriptor s start end
  unfolding judged hour_alone
  hour_found e =
      let q : at ≡ end = by_case (ltb at end) (λ t. absurd (let x = behind.all (ltb-true at end t) in omega (arith, count_is))) (λ t. let x = ltb-false at end t in omega (arith, behind.ends)) in
      sym (decided ∙ rw (q, fraction_none s end offset f within, eq-eqb f.count 4 e))

  -- else the fraction decides, and then the ranges do
  fraction_found : (f.count ≡ 4 → ⊥) → and_then (measured_from descriptor s end at) (λ y. ranged descriptor (record { offset = offset; fields = f; fraction = y })) ≡ timestamp descriptor s start end
  unfolding with_decimal measured_from
  fraction_found n = measured_judged descriptor s at end offset f (decimal s at end) n ∙ sym decided

-- the same of what was read, as the tactics are to have it
module _ (descriptor : ℕ) (s : List ℕ) (start end : ℕ) (i : VarInt) (h : var_int s start end ≡ gives (record { negative = i.negative; magnitude = i.magnitude; next = i.next })) where
  pub bytes_in : end ≤ length s
  bytes_in = (var_int_at s start end h).number.within

  pub fields_refused : (n p : ℕ) → fields_given (fields_from 6 s end i.next) ≡ refuses n p → refuses n p ≡ timestamp descriptor s start end
  unfolding timestamp encoded with_offset
  fields_refused n p e = rw (h, fields_cut _ n p e)

  module _ (f : FieldsRead) (e : fields_given (fields_from 6 s end i.next) ≡ gives f) where
    found : FieldsFound (fields_from 6 s end i.next) f.fields f.next
    found = fields_found _ e

    pub fields_end : f.next ≤ end
    fields_end = (behind descriptor s start end _ h _ _ found).ends

    pub fields_filled : Filled f.fields
    fields_filled = rw found.fields (filled found.values (behind descriptor s start end _ h _ _ found).most)

    pub hour_stands : f.fields.count ≡ 4 → refuses 61 descriptor ≡ timestamp descriptor s start end
    hour_stands = hour_found descriptor s start end _ h _ _ found

    module _ (n : f.fields.count ≡ 4 → ⊥) where
      pub fraction_refused : (number position : ℕ) → measured_from descriptor s end f.next ≡ refuses number position → refuses number position ≡ timestamp descriptor s start end
      fraction_refused number position q = rw q at (fraction_found descriptor s start end _ h _ _ found n)

      pub fraction_given : (y : Fraction) → measured_from descriptor s end f.next ≡ gives y → ranged descriptor (record { offset = record { negative = i.negative; minutes = i.magnitude }; fields = f.fields; fraction = y }) ≡ timestamp descriptor s start end
      fraction_given y q = rw q at (fraction_found descriptor s start end _ h _ _ found n)

pub ruleset stamp_told = (bytes_in, fields_refused, fields_end, fields_filled, hour_stands, fraction_refused, fraction_given)
