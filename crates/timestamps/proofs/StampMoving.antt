-- What a timestamp's body encodes depends on its bytes and not on where they stand: the offset, each field and the fraction do.
-- Assumes nothing.
use Prim.Native.Nat.{ℕ, zero, suc, ◌+◌, ◌≤◌, ◌<◌}
use native.Mathlib.Omega.{arith}
use mathlib.Core.Path.{◌≡◌, refl, ◌∙◌, ap, subst}
use mathlib.Core.List.{List, [], ◌∷◌}
use lib.ListN.{length, get_or}
use lib.Dec.{eqb, ltb}
use borrow.Author.Tests.{lt-ltb, le-ltb, ltb-true, ltb-false}
use Rattle.numbers.specs.Outcome.{Outcome, gives, refuses, outside_of}
use Rattle.numbers.specs.Bytes.{Same}
use Rattle.numbers.specs.Answers.{Unsigned, Signed, var_number, var_int}
use Rattle.numbers.proofs.Outcomes.{by_case, Each, given, each_then, each_pick, each_of}
use Rattle.numbers.proofs.Meaning.{var_int_at, var_uint_at, var_uint_bounded}
use Rattle.numbers.proofs.Moving.{Moved, given_on, refused_on, moved_then, moved_pick, same_moved, part_moved, var_uint_moved, var_int_moved}
use Rattle.bodies.specs.Decimal.{Split, decimal, DecimalMeaning, empty, split, outside, cut_short, too_long, moved_split, moved_decimal}
use Rattle.timestamps.specs.Timestamp.{Values, before, after_value, fields_from, fields_of, Encoded, with_fraction, with_decimal, with_values, with_offset, encoded, timestamp}
use Rattle.timestamps.specs.TimestampMeaning.{moved_encoded, TimestampsMoved, TimestampsLocal}
use Rattle.timestamps.specs.declared.timestamp.Offset.{Offset}
use Rattle.timestamps.specs.declared.timestamp.Fields.{Fields}
use Rattle.bodies.proofs.Splitting.{decimals-sound, decimals-moved}

abbrev moved_values : ℕ → Values → Values
moved_values n v = record { values = v.values; next = n + v.next }

-- what is encoded has no position
abbrev same_encoded : Encoded → Encoded
same_encoded e = e

-- a decimal's moved answer
decimal_on : (n : ℕ) (o : Outcome Split) → Moved n (moved_split n) o (moved_decimal n o)
decimal_on n (gives d) = given_on
decimal_on n (refuses number position) = refused_on

less_moved : (n a b : ℕ) → ltb (n + a) (n + b) ≡ ltb a b
less_moved n a b =
    by_case (ltb a b)
    (λ e. rw (e, lt-ltb (n + a) (n + b) (omega (arith, ltb-true a b e))))
    (λ e. rw (e, le-ltb (n + a) (n + b) (omega (arith, ltb-false a b e))))

-- a coefficient's bytes after the first lie in the decimal's
record Inside (at end : ℕ) (d : Split) : Type 0 where
  low : at ≤ d.coefficient.rest
  high : d.coefficient.end ≤ end

inside_of : {s : List ℕ} {at end : ℕ} {o : Outcome Split} {d : Split} → DecimalMeaning s at end o → o ≡ gives d → Inside at end d
inside_of {at = at} {end} {d = d} (empty {d = x} e w) q =
    let p : x ≡ d = cc in
    subst (Inside at end) p (record { low = omega (arith, w.coefficient_is.low); high = w.coefficient_is.ends })
inside_of {at = at} {end} {d = d} (split {d = x} n h w) q =
    let p : x ≡ d = cc in
    subst (Inside at end) p (record { low = omega (arith, n.begins, w.coefficient_is.low); high = w.coefficient_is.ends })
inside_of (outside h) q = absurd (let z : ◌≡◌ {A = ℕ} 0 1 = cc in omega arith)
inside_of (cut_short a b h) q = absurd (let z : ◌≡◌ {A = ℕ} 0 1 = cc in omega arith)
inside_of (too_long n h) q = absurd (let z : ◌≡◌ {A = ℕ} 0 1 = cc in omega arith)

-- fields end in the body
record Ends (at end : ℕ) (v : Values) : Type 0 where
  low : at ≤ v.next
  high : v.next ≤ end

fields_end : (count : ℕ) (s : List ℕ) (end at : ℕ) → at ≤ end → Each (Ends at end) (fields_from count s end at)
unfolding fields_from after_value
fields_end zero s end at l = given {a = record { values = []; next = at }} (record { low = omega arith; high = l })
fields_end (suc count) s end at l =
    each_then (var_uint_bounded s at end) (λ u b.
    each_pick (eqb u.next end) (λ _. given {a = record { values = u.value ∷ []; next = end }} (record { low = l; high = omega arith })) (λ _.
    each_then (fields_end count s end u.next b.ends) (λ v e. given {a = record { values = u.value ∷ v.values; next = v.next }} (record { low = omega (arith, b.begins, e.low); high = e.high }))))

module _ (s t : List ℕ) (n start end : ℕ) (k : end ≤ length s) (k' : n + end ≤ length t) (same : (i : ℕ) → start ≤ i → i < end → get_or s i 0 ≡ get_or t (n + i) 0) where
  fields_moved : (count at : ℕ) → start ≤ at → at ≤ end → Moved n (moved_values n) (fields_from count s end at) (fields_from count t (n + end) (n + at))
  unfolding fields_from after_value
  fields_moved zero at a b = given_on
  fields_moved (suc count) at a b =
      moved_then (after_value (fields_from count s end) end) (after_value (fields_from count t (n + end)) (n + end)) (var_uint_moved s t n at end b k k' (λ i p q. same i (omega arith) q)) (λ u q.
      let r = var_uint_at s at end q in
      let x : u.next ≡ r.next = ap (λ (y : Unsigned). y.next) r.is in
      rw (same_moved n u.next end)
      (moved_pick (eqb u.next end) (λ _. given_on) (λ _.
      moved_then (before u.value) (before u.value) (fields_moved count u.next (omega (arith, r.number.begins)) (omega (arith, r.number.ends))) (λ v _. given_on))))

  module _ (o : Offset) where
    decimal_moved : (f : Fields) (at : ℕ) → start ≤ at → at ≤ end → Moved n same_encoded (with_decimal s end at o f) (with_decimal t (n + end) (n + at) o f)
    unfolding with_decimal with_fraction
    decimal_moved f at a b =
        rw (decimals-moved s t n at end b k k' (λ i p q. same i (omega arith) q))
        (moved_then (with_fraction s end at o f) (with_fraction t (n + end) (n + at) o f) (decimal_on n (decimal s at end)) (λ d q.
        let i = inside_of (decimals-sound s at end) q in
        rw
        (less_moved n at end, part_moved s t n at end b k k' (λ j p r. same j (omega arith) r) d.coefficient.rest d.coefficient.end i.low i.high)
        given_on))

  encoded_moved : start ≤ end → Moved n same_encoded (encoded s start end) (encoded t (n + start) (n + end))
  unfolding encoded with_offset with_values
  encoded_moved order =
      moved_then (with_offset s end) (with_offset t (n + end)) (var_int_moved s t n start end order k k' same) (λ i q.
      let r = var_int_at s start end q in
      let x : i.next ≡ r.next = ap (λ (y : Signed). y.next) r.is in
      let o : Offset = record { negative = i.negative; minutes = i.magnitude } in
      moved_then (with_values s end o) (with_values t (n + end) o) (fields_moved 6 i.next (omega (arith, r.number.begins)) (omega (arith, r.number.ends))) (λ v p.
      let e : Ends i.next end v = each_of (fields_end 6 s end i.next (omega (arith, r.number.ends))) p in
      decimal_moved o (fields_of v.values) v.next (omega (arith, r.number.begins, e.low)) e.high))

is_moved : (n : ℕ) {o o' : Outcome Encoded} → Moved n same_encoded o o' → o' ≡ moved_encoded n o
is_moved n given_on = refl
is_moved n refused_on = refl

pub timestamps-moved : TimestampsMoved
timestamps-moved s t n start end order k k' same = is_moved n (encoded_moved s t n start end k k' same order)

-- no bytes further on is the same place
none_on : (i : ℕ) → 0 + i ≡ i
none_on i = omega arith

not_moved : {o o' : Outcome Encoded} → Moved 0 same_encoded o o' → o ≡ o'
not_moved given_on = refl
not_moved (refused_on {position = p}) = rw (none_on p)

encoded_local : (s t : List ℕ) (start end : ℕ) → end ≤ length s → end ≤ length t → Same s t start end → encoded s start end ≡ encoded t start end
unfolding encoded var_int var_number outside_of
encoded_local s t start end k k' same =
    by_case (ltb end start) (λ h. rw h) (λ h.
    not_moved (encoded_moved s t 0 start end k (omega arith) (λ i a b. same i a b ∙ rw (none_on i)) (ltb-false end start h))
    ∙ ap (λ (a : ℕ). encoded t a (0 + end)) (none_on start)
    ∙ ap (encoded t start) (none_on end))

pub timestamps-local : TimestampsLocal
unfolding timestamp
timestamps-local descriptor s t start end k k' same = rw (encoded_local s t start end k k' same)
