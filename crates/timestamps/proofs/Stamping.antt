-- What the reading of a timestamp says of its body: the offset, the fields and the fraction are the Ion document's, and the tests on them are paper 02's ranges.
-- Assumes nothing.
use Prim.Native.Nat.{ℕ, zero, suc, ◌+◌, ◌-◌, ◌^◌, ◌≤◌, ◌<◌}
use native.Mathlib.Omega.{arith}
use mathlib.Core.Path.{◌≡◌, refl, ◌∙◌, sym, ap, subst}
use mathlib.Core.Logic.{inl, inr}
use mathlib.Core.Bool.{Bool, true, false, true≢false}
use mathlib.Core.List.{List, [], ◌∷◌}
use lib.IntN.{nat_abs}
use lib.ListN.{length}
use lib.Dec.{eqb, ltb}
use borrow.Author.Tests.{eq-eqb, ne_eqb, eqb-true, eqb-false, ltb-true, ltb-false, lt-ltb, le-ltb, leb-true, leb-false, lt-leb}
use Rattle.numbers.specs.Format.{NumberAt, of_digits, var_uint_of, var_int_negative, var_int_magnitude}
use Rattle.numbers.specs.Outcome.{Outcome, gives, refuses, and_then}
use Rattle.numbers.specs.Bytes.{part}
use Rattle.numbers.specs.Answers.{Unsigned, Signed, unsigned, signed}
use Rattle.numbers.specs.Meaning.{NumberMeaning, reads as number_read, outside as number-outside, cut_short as number_cut, too_long as number-long}
use Rattle.numbers.proofs.Outcomes.{by_test, by_case, by_refusal, within_part}
use Rattle.numbers.proofs.Meaning.{var-uint-sound, var-int-sound, var-uint-complete, var-int-complete}
use Rattle.numbers.proofs.Parts.{part_none}
use Rattle.bodies.specs.Decimal.{Split, zero_at, decimal, DecimalMeaning, empty, split, outside as decimal-outside, cut_short as decimal-cut, too_long as decimal-long, integer}
use Rattle.timestamps.specs.Timestamp.{Values, before, after_value, fields_from, fields_of, Encoded, with_fraction, with_decimal, with_values, with_offset, encoded, out_of_range}
use Rattle.timestamps.specs.Timestamp.{precision_of, offset_of, stamp_of, ranged, hour_alone, too_wide, judged, timestamp}
use Rattle.timestamps.specs.TimestampMeaning.{VarUIntsAt, none, one, FieldsAt, absent_fraction, FractionAt, no_fraction, fraction_there, Encodes, Reaches, OffsetIs, negative_zero, no_hour, west, east, Worth}
use Rattle.timestamps.specs.TimestampMeaning.{to_year, to_month, to_day, to_minute, to_second, to_fraction, Cut, TooLong, FieldNext, the_year, another, TimestampMeaning, reads, no_minute, numbers_too_wide, fields_out_of_range, outside}
use Rattle.timestamps.specs.TimestampMeaning.{offset_cut, offset_long, field_cut, field_long, exponent_cut, exponent_long, TimestampsSound, TimestampsComplete}
use Rattle.timestamps.specs.declared.timestamp.Offset.{Offset}
use Rattle.timestamps.specs.declared.timestamp.Fields.{Fields}
use Rattle.timestamps.specs.Timestamp.{Fraction}
use Rattle.timestamps.specs.declared.timestamp.Stamp.{Stamp}
use Rattle.bodies.proofs.Splitting.{decimals-sound, decimals-complete}
use Rattle.timestamps.proofs.Ranges.{within_sound, within_complete}

-- what the fields' reading says: those read, or the one that could not be read behind others
data FieldsMeaning (n : ℕ) (s : List ℕ) (end at : ℕ) : Outcome Values → Type 0 where
  all_read : {next : ℕ} {values : List ℕ}
      → VarUIntsAt s end at next values
      → length values ≤ n
      → (1 ≤ n → 1 ≤ length values)
      → (next < end → length values ≡ n)
      → next ≤ end
      → FieldsMeaning n s end at (gives (record { values = values; next = next }))
  one_cut : {mid : ℕ} {values : List ℕ} → VarUIntsAt s end at mid values → length values < n → (1 ≤ length values → mid < end) → Cut s mid end → FieldsMeaning n s end at (refuses 3 end)
  one_long : {mid : ℕ} {values : List ℕ} → VarUIntsAt s end at mid values → length values < n → (1 ≤ length values → mid < end) → TooLong s mid end → FieldsMeaning n s end at (refuses 20 mid)

-- no numbers end where they begin
none_at : {s : List ℕ} {end at mid : ℕ} {values : List ℕ} → VarUIntsAt s end at mid values → length values ≡ 0 → mid ≡ at
none_at none e = refl
none_at (one n h r) e = absurd (omega arith)

-- behind a number that does not end at the end
left_behind : {s : List ℕ} {end at mid : ℕ} (values : List ℕ) → VarUIntsAt s end at mid values → at < end → (1 ≤ length values → mid < end) → mid < end
left_behind [] r h k = let e = none_at r refl in omega arith
left_behind (v ∷ values) r h k = k (omega arith)

module _ (n : ℕ) (s : List ℕ) (end at mid : ℕ) (m : NumberAt s at end mid) (h : mid ≤ at + 9) (l : mid < end) where
  behind_one : {o : Outcome Values} → FieldsMeaning n s end mid o → FieldsMeaning (suc n) s end at (and_then o (before (var_uint_of (part s at mid))))
  behind_one (all_read r a b c d) = all_read (one m h r) (omega arith) (λ _. omega arith) (λ e. ap suc (c e)) d
  behind_one (one_cut {values = vs} r a b c) = one_cut (one m h r) (omega arith) (λ _. left_behind vs r l b) c
  behind_one (one_long {values = vs} r a b c) = one_long (one m h r) (omega arith) (λ _. left_behind vs r l b) c

module _ (s : List ℕ) (end : ℕ) where
  after_one : (n at : ℕ) → at ≤ end → end ≤ length s → ((mid : ℕ) → mid ≤ end → FieldsMeaning n s end mid (fields_from n s end mid)) → {o : Outcome Unsigned} → NumberMeaning 3 (unsigned s at) s at end o → FieldsMeaning (suc n) s end at (and_then o (after_value (fields_from n s end) end))
  unfolding after_value
  after_one n at a b more (number_read {next} m h) =
      by_test (FieldsMeaning (suc n) s end at) (eqb next end)
      (λ e.
      let q : next ≡ end = eqb-true next end e in
      all_read (subst (λ (x : ℕ). VarUIntsAt s end at x (var_uint_of (part s at next) ∷ [])) q (one m h none)) (omega arith) (λ _. omega arith) (λ l. absurd (omega arith)) (omega arith))
      (λ e.
      let l : next < end = omega (arith, m.ends, eqb-false next end e) in
      behind_one n s end at next m h l (more next m.ends))
  after_one n at a b more (number-outside (inl h)) = absurd (omega arith)
  after_one n at a b more (number-outside (inr h)) = absurd (omega arith)
  after_one n at a b more (number_cut p q h) =
      one_cut none (omega arith) (λ l. absurd (omega arith)) (record { order = a; within = b; low = h })
  after_one n at a b more (number-long {next} m h) =
      one_long none (omega arith) (λ l. absurd (omega arith)) (record { next = next; number = m; long = h })

  fields_sound : (n at : ℕ) → at ≤ end → end ≤ length s → FieldsMeaning n s end at (fields_from n s end at)
  unfolding fields_from
  fields_sound zero at a b = all_read none (omega arith) (λ l. absurd (omega arith)) (λ l. refl) a
  fields_sound (suc n) at a b = after_one n at a b (λ mid c. fields_sound n mid c b) (var-uint-sound s at end)

-- where the fields end that were read
pub record Behind (s : List ℕ) (end : ℕ) (v : Values) : Type 0 where
  pub ends : v.next ≤ end
  pub all : v.next < end → length v.values ≡ 6
  pub most : length v.values ≤ 6

behind_of : {s : List ℕ} {end at : ℕ} {o : Outcome Values} {v : Values} → FieldsMeaning 6 s end at o → o ≡ gives v → Behind s end v
behind_of {s} {end} {v = v} (all_read {next} {values} r a b c d) q =
    let e : record { values = values; next = next } ≡ v = cc in
    subst (Behind s end) e (record { ends = d; all = c; most = a })
behind_of (one_cut r a b c) q = absurd (let z : ◌≡◌ {A = ℕ} 0 1 = cc in omega arith)
behind_of (one_long r a b c) q = absurd (let z : ◌≡◌ {A = ℕ} 0 1 = cc in omega arith)

pub fields_behind : (s : List ℕ) (end at : ℕ) (v : Values) → at ≤ end → end ≤ length s → fields_from 6 s end at ≡ gives v → Behind s end v
fields_behind s end at v a b q = behind_of (fields_sound s end 6 at a b) q

-- how far it goes: four fields are refused, and a fraction is behind six
reaches : (count : ℕ) (present : Bool) → 1 ≤ count → count ≤ 6 → (count ≡ 4 → ⊥) → (present ≡ true → count ≡ 6) → Reaches count present (precision_of count present)
unfolding precision_of
reaches zero present a b c d = absurd (omega arith)
reaches (suc zero) true a b c d = absurd (let e = d refl in omega arith)
reaches (suc zero) false a b c d = to_year
reaches (suc (suc zero)) true a b c d = absurd (let e = d refl in omega arith)
reaches (suc (suc zero)) false a b c d = to_month
reaches (suc (suc (suc zero))) true a b c d = absurd (let e = d refl in omega arith)
reaches (suc (suc (suc zero))) false a b c d = to_day
reaches (suc (suc (suc (suc zero)))) present a b c d = absurd (c refl)
reaches (suc (suc (suc (suc (suc zero))))) true a b c d = absurd (let e = d refl in omega arith)
reaches (suc (suc (suc (suc (suc zero))))) false a b c d = to_minute
reaches (suc (suc (suc (suc (suc (suc zero)))))) true a b c d = to_fraction
reaches (suc (suc (suc (suc (suc (suc zero)))))) false a b c d = to_second
reaches (suc (suc (suc (suc (suc (suc (suc n))))))) present a b c d = absurd (omega arith)

offset_is : (o : Offset) (count : ℕ) → o.minutes ≤ 1439 → OffsetIs o count (offset_of o count)
unfolding offset_of
offset_is o count l =
    by_test (OffsetIs o count) (ltb count 4) (λ h. no_hour (omega (arith, ltb-true count 4 h))) (λ h.
    by_test (OffsetIs o count) o.negative
    (λ n.
    by_test (OffsetIs o count) (eqb o.minutes 0)
    (λ z. negative_zero n (eqb-true o.minutes 0 z))
    (λ z. west (ltb-false count 4 h) n (omega (arith, eqb-false o.minutes 0 z)) (omega arith)))
    (λ n. east (ltb-false count 4 h) n (omega arith)))

present_six : {s : List ℕ} {at end count : ℕ} {f : Fraction} → FractionAt s at end count f → f.present ≡ true → count ≡ 6
present_six (no_fraction e) p = absurd (true≢false (sym p))
present_six (fraction_there c n h q x y z w) p = c

count_is : {s : List ℕ} {start end : ℕ} {e : Encoded} (x : Encodes s start end e) → e.fields.count ≡ length x.values
unfolding fields_of
count_is x = ap (λ (f : Fields). f.count) x.fields

worth : {s : List ℕ} {start end : ℕ} (e : Encoded) → Encodes s start end e → (e.fields.count ≡ 4 → ⊥) → e.offset.minutes ≤ 1439 → Worth e (stamp_of e)
unfolding stamp_of
worth e x four l =
    record {
      precision = reaches e.fields.count e.fraction.present (omega (arith, count_is x, x.some)) (omega (arith, count_is x, x.before.most)) four (λ p. count_is x ∙ present_six x.behind p);
      offset = offset_is e.offset e.fields.count l;
      year = refl;
      month = refl;
      day = refl;
      hour = refl;
      minute = refl;
      second = refl;
      exponent = refl;
      coefficient = refl;
    }

-- a body that ends with its fields has no fraction
pub none_behind : (s : List ℕ) (end : ℕ) → end ≤ length s → decimal s end end ≡ gives (zero_at end)
unfolding decimal
none_behind s end k = within_part s end end (omega arith) k ∙ rw (eq-eqb end end refl)

pub fraction_none : (s : List ℕ) (end : ℕ) (o : Offset) (f : Fields) → end ≤ length s → with_decimal s end end o f ≡ gives (record { offset = o; fields = f; fraction = absent_fraction })
unfolding with_decimal with_fraction of_digits
fraction_none s end o f k = rw (none_behind s end k, part_none s end, le-ltb end end (omega arith))

next_field : (values : List ℕ) (at end : ℕ) → length values < 6 → (1 ≤ length values → at < end) → FieldNext at end (length values)
next_field [] at end l k = the_year refl
next_field (v ∷ values) at end l k = another l (k (omega arith))

module _ (descriptor : ℕ) (s : List ℕ) (start end : ℕ) where
  abbrev M : Outcome Stamp → Type 0
  M = TimestampMeaning descriptor s start end

  judged_sound : (e : Encoded) → Encodes s start end e → M (judged descriptor e)
  unfolding judged ranged hour_alone too_wide
  judged_sound e x =
      by_refusal M (hour_alone e.fields) 61 descriptor (λ t. no_minute x (eqb-true _ _ t)) (λ t.
      let four : e.fields.count ≡ 4 → ⊥ = eqb-false _ _ t in
      by_refusal M (too_wide e.fraction) 63 descriptor (λ u. numbers_too_wide x four (leb-true _ _ u)) (λ u.
      let narrow : e.fraction.coefficient < 256 ^ 8 = leb-false _ _ u in
      by_refusal M (out_of_range e) 62 descriptor (λ r. fields_out_of_range x four narrow (λ w. true≢false (sym r ∙ within_complete e w))) (λ r.
      let w = within_sound e r in reads x narrow w (worth e x four w.offset))))

  module _ (at : ℕ) (o : Offset) (values : List ℕ) (f : FieldsAt s start end at o values) where
    after_decimal : {d : Outcome Split} → DecimalMeaning s at end d → at < end → 1 ≤ length values → (at < end → length values ≡ 6) → M (and_then (and_then d (with_fraction s end at o (fields_of values))) (judged descriptor))
    unfolding with_fraction
    after_decimal (empty e w) l some six = absurd (omega arith)
    after_decimal (split {at = mid} n h w) l some six =
        judged_sound _
        (record {
          at = at;
          values = values;
          before = f;
          some = some;
          fields = refl;
          behind = fraction_there (six l) n h (lt-ltb at end l) w.exponent_is w.one_zero (rw (whole n) at w.coefficient_is.sign) (rw (whole n) at w.coefficient_is.magnitude);
        })
      where
        whole : NumberAt s at end mid → mid + (end - mid) ≡ end
        whole n = omega (arith, n.ends)
    after_decimal (decimal-outside (inl h)) l some six = absurd (omega arith)
    after_decimal (decimal-outside (inr h)) l some six = absurd (omega (arith, f.number.within))
    after_decimal (decimal-cut a b h) l some six = exponent_cut f (six l) l (record { order = omega arith; within = b; low = h })
    after_decimal (decimal-long {at = mid} n h) l some six = exponent_long f (six l) l (record { next = mid; number = n; long = h })

    fraction_sound : at ≤ end → 1 ≤ length values → (at < end → length values ≡ 6) → M (and_then (with_decimal s end at o (fields_of values)) (judged descriptor))
    unfolding with_decimal
    fraction_sound order some six =
        by_case (eqb at end)
        (λ e.
        let q : at ≡ end = eqb-true at end e in
        let i : with_decimal s end at o (fields_of values) ≡ gives (record { offset = o; fields = fields_of values; fraction = absent_fraction }) = rw q (fraction_none s end o (fields_of values) f.number.within) in
        rw i (judged_sound _ (record { at = at; values = values; before = f; some = some; fields = refl; behind = no_fraction q })))
        (λ e. after_decimal (decimals-sound s at end) (omega (arith, eqb-false at end e)) some six)

  module _ (first : ℕ) (m : NumberAt s start end first) (h : first ≤ start + 9) where
    abbrev o : Offset
    o = record { negative = var_int_negative (part s start first); minutes = var_int_magnitude (part s start first) }

    fields_at : {at : ℕ} {values : List ℕ} → VarUIntsAt s end first at values → length values ≤ 6 → FieldsAt s start end at o values
    fields_at r l = record { first = first; number = m; short = h; sign = refl; minutes = refl; numbers = r; most = l }

    after_fields : {v : Outcome Values} → FieldsMeaning 6 s end first v → M (and_then (and_then v (with_values s end o)) (judged descriptor))
    unfolding with_values
    after_fields (all_read {next} {values} r a b c d) = fraction_sound next o values (fields_at r a) d (b (omega arith)) c
    after_fields (one_cut {mid} {values} r a b c) = field_cut (fields_at r (omega arith)) (next_field values mid end a b) c
    after_fields (one_long {mid} {values} r a b c) = field_long (fields_at r (omega arith)) (next_field values mid end a b) c

  after_offset : {v : Outcome Signed} → NumberMeaning 4 (signed s start) s start end v → M (and_then (and_then v (with_offset s end)) (judged descriptor))
  unfolding with_offset
  after_offset (number_read {next} m h) = after_fields next m h (fields_sound s end 6 next m.ends m.within)
  after_offset (number-outside h) = outside h
  after_offset (number_cut a b h) = offset_cut (record { order = a; within = b; low = h })
  after_offset (number-long {next} m h) = offset_long (record { next = next; number = m; long = h })

pub timestamps-sound : TimestampsSound
unfolding timestamp encoded
timestamps-sound descriptor s start end = after_offset descriptor s start end (var-int-sound s start end)

-- numbers of the document are read as fields
module _ (s : List ℕ) (end : ℕ) where
  fields_complete : (n : ℕ) {at next : ℕ} {values : List ℕ} → VarUIntsAt s end at next values → 1 ≤ length values → length values ≤ n → (next < end → length values ≡ n) → next ≤ end → fields_from n s end at ≡ gives (record { values = values; next = next })
  unfolding fields_from after_value
  fields_complete zero r some most all order = absurd (omega arith)
  fields_complete (suc n) none some most all order = absurd (omega arith)
  fields_complete (suc n) {at} (one {mid = mid} m h none) some most all order =
      rw (var-uint-complete s at end mid m h)
      (by_case (eqb mid end)
      (λ e. let q : mid ≡ end = eqb-true mid end e in rw (e, ← q))
      (λ e.
      let z : n ≡ 0 = let l = all (omega (arith, eqb-false mid end e)) in omega arith in
      rw (e, z)))
  fields_complete (suc n) {at} (one {mid = mid} m h (one {mid = second} m' h' r)) some most all order =
      rw (var-uint-complete s at end mid m h, ne_eqb mid end (omega (arith, m'.begins, m'.ends)), fields_complete n (one m' h' r) (omega arith) (omega arith) (λ l. let e = all l in omega arith) order)

-- an integer whose zero has no sign has one sign and one magnitude
magnitude_of : (negative : Bool) (m : ℕ) → nat_abs (integer negative m) ≡ m
magnitude_of true zero = refl
magnitude_of true (suc m) = refl
magnitude_of false m = refl

sign_of : (a b : Bool) (m : ℕ) → integer a m ≡ integer b m → (m ≡ 0 → a ≡ false) → (m ≡ 0 → b ≡ false) → a ≡ b
sign_of a b zero e h k = h refl ∙ sym (k refl)
sign_of true true (suc m) e h k = refl
sign_of true false (suc m) e h k = absurd (let z : ◌≡◌ {A = ℕ} 0 1 = cc in omega arith)
sign_of false true (suc m) e h k = absurd (let z : ◌≡◌ {A = ℕ} 0 1 = cc in omega arith)
sign_of false false (suc m) e h k = refl

module _ (s : List ℕ) (at end : ℕ) (o : Offset) (fields : Fields) (order : at ≤ end) (k : end ≤ length s) where
  fraction_complete : {count : ℕ} {f : Fraction} → FractionAt s at end count f → with_decimal s end at o fields ≡ gives (record { offset = o; fields = fields; fraction = f })
  unfolding with_decimal with_fraction
  fraction_complete (no_fraction q) = rw q (fraction_none s end o fields k)
  fraction_complete {f = f} (fraction_there {mid = mid} c n h p x y z w) =
      let r = decimals-complete s at mid end n h in
      let d : Split = r.0 in
      let v = r.2 in
      let same : integer d.exponent_negative d.exponent ≡ integer f.exponent_negative f.exponent = v.exponent_is ∙ sym x in
      let m : d.exponent ≡ f.exponent = sym (magnitude_of d.exponent_negative d.exponent) ∙ ap nat_abs same ∙ magnitude_of f.exponent_negative f.exponent in
      let whole : mid + (end - mid) ≡ end = omega (arith, n.ends) in
      let sign : d.coefficient.negative ≡ f.negative = (rw whole at v.coefficient_is.sign) ∙ sym z in
      let digits : of_digits 256 (d.coefficient.first ∷ part s d.coefficient.rest d.coefficient.end) ≡ f.coefficient = (rw whole at v.coefficient_is.magnitude) ∙ sym w in
      let up : d.exponent_negative ≡ f.exponent_negative = sign_of d.exponent_negative f.exponent_negative f.exponent (rw m at same) (λ e. v.one_zero (m ∙ e)) y in
      rw (r.1, lt-ltb at end (omega (arith, n.begins, n.ends)), ← p, up, m, sign, digits)

module _ (s : List ℕ) (start end : ℕ) (e : Encoded) (x : Encodes s start end e) where
  ends : x.at ≤ end
  ends = numbers_end x.before.numbers x.before.number.ends
    where
      numbers_end : {at next : ℕ} {values : List ℕ} → VarUIntsAt s end at next values → at ≤ end → next ≤ end
      numbers_end none l = l
      numbers_end (one n h r) l = numbers_end r n.ends

  all : {f : Fraction} → FractionAt s x.at end (length x.values) f → x.at < end → length x.values ≡ 6
  all (no_fraction q) l = absurd (omega arith)
  all (fraction_there c n h p y z v w) l = c

  encoded_complete : encoded s start end ≡ gives e
  unfolding encoded with_offset with_values
  encoded_complete =
      rw
      (var-int-complete s start end x.before.first x.before.number x.before.short, fields_complete s end 6 x.before.numbers x.some x.before.most (all x.behind) ends, ← x.before.sign, ← x.before.minutes, ← x.fields)
      (fraction_complete s x.at end e.offset e.fields ends x.before.number.within x.behind)

pub timestamps-complete : TimestampsComplete
unfolding timestamp judged ranged hour_alone too_wide
timestamps-complete descriptor s start end e x four narrow w =
    (stamp_of e, rw (encoded_complete s start end e x, ne_eqb e.fields.count 4 four, lt-leb (256 ^ 8) e.fraction.coefficient narrow, within_complete e w), worth e x four w.offset)
