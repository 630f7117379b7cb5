-- What the answers to a timestamp's reading say of its body, in both directions: what is read is an offset, fields and a fraction of the Ion document's
-- "6: timestamp" within paper 02's ranges, and such a body is read. The theorems are proved in proofs/Ranges.antt and proofs/Stamping.antt.
-- Assumes nothing.
use Rattle.std.specs.Prelude.{ℕ, ◌+◌, ◌*◌, ◌^◌, ◌≤◌, ◌<◌, ◌≡◌, ◌⊎◌, Bool, true, false, List, [], ◌∷◌, length, get_or}
use Rattle.numbers.specs.Format.{NumberAt, var_uint_of, var_int_negative, var_int_magnitude, int_negative, int_magnitude}
use Rattle.numbers.specs.Outcome.{Outcome, gives, refuses, pick}
use Rattle.numbers.specs.Bytes.{part, Same}
use Rattle.timestamps.specs.Calendar.{DaysOf}
use Rattle.bodies.specs.Decimal.{integer, var_int_of}
use Rattle.timestamps.specs.Timestamp.{Fraction, fields_of, Encoded, encoded, timestamp}
use Rattle.timestamps.specs.declared.timestamp.Offset.{Offset}
use Rattle.timestamps.specs.declared.timestamp.Fields.{Fields}
use Rattle.timestamps.specs.declared.timestamp.Stamp.{Stamp}

-- "6: timestamp": year, month, day, hour, minute and second are VarUInts. Such numbers of at most nine bytes, one behind the other from `at` to `next`,
-- with what they are worth.
pub data VarUIntsAt (s : List ℕ) (end : ℕ) : ℕ → ℕ → List ℕ → Type 0 where
  none : {at : ℕ} → VarUIntsAt s end at at []
  one : {at mid next : ℕ} {values : List ℕ}
      → NumberAt s at end mid
      → mid ≤ at + 9
      → VarUIntsAt s end mid next values
      → VarUIntsAt s end at next (var_uint_of (part s at mid) ∷ values)

-- the offset before them is a VarInt, and they are six at most
pub record FieldsAt (s : List ℕ) (start end at : ℕ) (offset : Offset) (values : List ℕ) : Type 0 where
  pub first : ℕ
  pub number : NumberAt s start end first
  pub short : first ≤ start + 9
  pub sign : offset.negative ≡ var_int_negative (part s start first)
  pub minutes : offset.minutes ≡ var_int_magnitude (part s start first)
  pub numbers : VarUIntsAt s end first at values
  pub most : length values ≤ 6

-- the fraction of a timestamp without one
abbrev pub absent_fraction : Fraction
absent_fraction = record { present = false; exponent_negative = false; exponent = 0; negative = false; coefficient = 0 }

-- the fraction behind them, at..end: none; or behind six fields an exponent, a VarInt, and a coefficient, an Int
pub data FractionAt (s : List ℕ) (at end count : ℕ) : Fraction → Type 0 where
  no_fraction : at ≡ end → FractionAt s at end count absent_fraction
  fraction_there : {mid : ℕ} {f : Fraction}
      → count ≡ 6
      → NumberAt s at end mid
      → mid ≤ at + 9
      → f.present ≡ true
      → integer f.exponent_negative f.exponent ≡ var_int_of (part s at mid)
      → (f.exponent ≡ 0 → f.exponent_negative ≡ false)
      → f.negative ≡ int_negative (part s mid end)
      → f.coefficient ≡ int_magnitude (part s mid end)
      → FractionAt s at end count f

-- the body start..end is this timestamp's
pub record Encodes (s : List ℕ) (start end : ℕ) (e : Encoded) : Type 0 where
  pub at : ℕ
  pub values : List ℕ
  pub before : FieldsAt s start end at e.offset values
  pub some : 1 ≤ length values
  pub fields : e.fields ≡ fields_of values
  pub behind : FractionAt s at end (length values) e.fraction

-- low to high, both included
pub record Between (low high value : ℕ) : Type 0 where
  pub least : low ≤ value
  pub most : value ≤ high

-- "Year is 1 to 9999, month 1 to 12, day as in the Gregorian month, hour to 23, minute and second to 59", of the fields that are there
pub record FieldsWithin (f : Fields) : Type 0 where
  pub year : Between 1 9999 f.year
  pub month : 2 ≤ f.count → Between 1 12 f.month
  pub day : 3 ≤ f.count → (days : ℕ) × DaysOf f.year f.month days × Between 1 days f.day
  pub hour : f.hour ≤ 23
  pub minute : f.minute ≤ 59
  pub second : f.second ≤ 59

-- "A fraction is its coefficient times ten to its exponent, at least 0 and below 1": below 0 is a negative coefficient that isn't zero, and the other
-- bound is multiplied by ten to what a negative exponent takes away
pub record FractionWithin (f : Fraction) : Type 0 where
  pub least : f.negative ≡ true → f.coefficient ≡ 0
  pub most :
      f.coefficient * 10 ^ pick f.exponent_negative 0 f.exponent < 10 ^ pick f.exponent_negative f.exponent 0

-- "offset -1439 to 1439"
pub record Within (e : Encoded) : Type 0 where
  pub offset : e.offset.minutes ≤ 1439
  pub fields : FieldsWithin e.fields
  pub fraction : FractionWithin e.fraction

-- how far it goes by the number of fields and whether a fraction follows: year, month, day, minute, second, fraction
pub data Reaches : ℕ → Bool → ℕ → Type 0 where
  to_year : Reaches 1 false 1
  to_month : Reaches 2 false 2
  to_day : Reaches 3 false 3
  to_minute : Reaches 5 false 4
  to_second : Reaches 6 false 5
  to_fraction : Reaches 6 true 6

-- the offset: unknown where it is negative zero, and where no hour is there; otherwise its minutes and 1440
pub data OffsetIs (o : Offset) (count : ℕ) : ℕ → Type 0 where
  negative_zero : o.negative ≡ true → o.minutes ≡ 0 → OffsetIs o count 0
  no_hour : count ≤ 3 → OffsetIs o count 0
  west : {word : ℕ} → 4 ≤ count → o.negative ≡ true → 1 ≤ o.minutes → word + o.minutes ≡ 1440 → OffsetIs o count word
  east : {word : ℕ} → 4 ≤ count → o.negative ≡ false → word ≡ o.minutes + 1440 → OffsetIs o count word

-- what is answered is what was read
pub record Worth (e : Encoded) (t : Stamp) : Type 0 where
  pub precision : Reaches e.fields.count e.fraction.present t.precision
  pub offset : OffsetIs e.offset e.fields.count t.offset
  pub year : t.year ≡ e.fields.year
  pub month : t.month ≡ e.fields.month
  pub day : t.day ≡ e.fields.day
  pub hour : t.hour ≡ e.fields.hour
  pub minute : t.minute ≡ e.fields.minute
  pub second : t.second ≡ e.fields.second
  pub exponent : integer t.exponent_negative t.exponent ≡ integer e.fraction.exponent_negative e.fraction.exponent
  pub coefficient : t.coefficient ≡ e.fraction.coefficient

-- no byte of at..end is a number's last
pub record Cut (s : List ℕ) (at end : ℕ) : Type 0 where
  pub order : at ≤ end
  pub within : end ≤ length s
  pub low : (i : ℕ) → at ≤ i → i < end → get_or s i 0 < 128

-- a number of more than nine bytes stands at `at`
pub record TooLong (s : List ℕ) (at end : ℕ) : Type 0 where
  pub next : ℕ
  pub number : NumberAt s at end next
  pub long : at + 9 < next

-- a further field is read where fewer than six stand before it and it is the year or there are bytes left; a fraction where six do and there are
pub data FieldNext (at end count : ℕ) : Type 0 where
  the_year : count ≡ 0 → FieldNext at end count
  another : count < 6 → at < end → FieldNext at end count

-- What the body is under each answer: a timestamp within the ranges; one with an hour and no minute; one whose coefficient has over 8 bytes; one out of
-- range; no part of the slice; or an offset, a field or an exponent that is cut short or has more than nine bytes, behind what could be read.
pub data TimestampMeaning (descriptor : ℕ) (s : List ℕ) (start end : ℕ) : Outcome Stamp → Type 0 where
  reads : {e : Encoded} {t : Stamp}
      → Encodes s start end e
      → e.fraction.coefficient < 256 ^ 8
      → Within e
      → Worth e t
      → TimestampMeaning descriptor s start end (gives t)
  no_minute : {e : Encoded}
      → Encodes s start end e
      → e.fields.count ≡ 4
      → TimestampMeaning descriptor s start end (refuses 61 descriptor)
  numbers_too_wide : {e : Encoded}
      → Encodes s start end e
      → (e.fields.count ≡ 4 → ⊥)
      → 256 ^ 8 ≤ e.fraction.coefficient
      → TimestampMeaning descriptor s start end (refuses 63 descriptor)
  fields_out_of_range : {e : Encoded}
      → Encodes s start end e
      → (e.fields.count ≡ 4 → ⊥)
      → e.fraction.coefficient < 256 ^ 8
      → (Within e → ⊥)
      → TimestampMeaning descriptor s start end (refuses 62 descriptor)
  outside : (end < start) ⊎ (length s < end) → TimestampMeaning descriptor s start end (refuses 50 0)
  offset_cut : Cut s start end → TimestampMeaning descriptor s start end (refuses 4 end)
  offset_long : TooLong s start end → TimestampMeaning descriptor s start end (refuses 20 start)
  field_cut : {at : ℕ} {o : Offset} {values : List ℕ}
      → FieldsAt s start end at o values
      → FieldNext at end (length values)
      → Cut s at end
      → TimestampMeaning descriptor s start end (refuses 3 end)
  field_long : {at : ℕ} {o : Offset} {values : List ℕ}
      → FieldsAt s start end at o values
      → FieldNext at end (length values)
      → TooLong s at end
      → TimestampMeaning descriptor s start end (refuses 20 at)
  exponent_cut : {at : ℕ} {o : Offset} {values : List ℕ}
      → FieldsAt s start end at o values
      → length values ≡ 6
      → at < end
      → Cut s at end
      → TimestampMeaning descriptor s start end (refuses 4 end)
  exponent_long : {at : ℕ} {o : Offset} {values : List ℕ}
      → FieldsAt s start end at o values
      → length values ≡ 6
      → at < end
      → TooLong s at end
      → TimestampMeaning descriptor s start end (refuses 20 at)

-- every answer means this
abbrev pub TimestampsSound : Type 0
TimestampsSound =
    (descriptor : ℕ) (s : List ℕ) (start end : ℕ) → TimestampMeaning descriptor s start end (timestamp descriptor s start end)

-- a body of the document within the ranges, no hour without its minute, is read as what it is, and nothing else is answered
abbrev pub TimestampsComplete : Type 0
TimestampsComplete =
    (descriptor : ℕ) (s : List ℕ) (start end : ℕ) (e : Encoded)
    → Encodes s start end e
    → (e.fields.count ≡ 4 → ⊥)
    → e.fraction.coefficient < 256 ^ 8
    → Within e
    → (t : Stamp) × (timestamp descriptor s start end ≡ gives t) × Worth e t

-- what is read depends on the body's bytes alone, refusals too
abbrev pub TimestampsLocal : Type 0
TimestampsLocal =
    (descriptor : ℕ) (s t : List ℕ) (start end : ℕ)
    → end ≤ length s
    → end ≤ length t
    → Same s t start end
    → timestamp descriptor s start end ≡ timestamp descriptor t start end

-- and on those bytes wherever they stand: n bytes further on, and in another slice, they encode the same, or have a refused number n bytes further on.
-- An answer is made of what they encode and of where the descriptor stands
abbrev pub moved_encoded : ℕ → Outcome Encoded → Outcome Encoded
moved_encoded n (gives e) = gives e
moved_encoded n (refuses number position) = refuses number (n + position)

abbrev pub TimestampsMoved : Type 0
TimestampsMoved =
    (s t : List ℕ) (n start end : ℕ)
    → start ≤ end
    → end ≤ length s
    → n + end ≤ length t
    → ((i : ℕ) → start ≤ i → i < end → get_or s i 0 ≡ get_or t (n + i) 0)
    → encoded t (n + start) (n + end) ≡ moved_encoded n (encoded s start end)
