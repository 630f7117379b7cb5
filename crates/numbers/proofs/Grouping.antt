-- The private reading of a number's bytes follows its definition: one byte on, the last byte, and none.
-- Assumes nothing.
use Prim.Native.Nat.{ℕ, ◌+◌, ◌-◌, ◌*◌, ◌/◌, ◌%◌, ◌^◌, ◌≤◌, ◌<◌}
use native.Mathlib.Omega.{arith}
use native.Mathlib.Numerals.{add-one}
use native.Mathlib.Nat.{pow-suc, mul_comm, pow-le-pow_right, lt_of_lt_of_le, mod-lt}
use mathlib.Core.Path.{◌≡◌, ◌∙◌, sym, ap}
use mathlib.Core.List.{List, []}
use lib.ListN.{length, get_or, length-map}
use lib.Dec.{eqb, ltb}
use borrow.Author.Tests.{eq-eqb, ne_eqb, eqb-false, lt-ltb, le-ltb}
use Rattle.numbers.specs.Format.{of_digits, var_uint_of, var_int_negative, var_int_magnitude}
use Rattle.numbers.specs.Outcome.{Outcome, gives, refuses, and_then}
use Rattle.numbers.specs.Bytes.{part}
use Rattle.numbers.specs.Answers.{most_bytes, Unsigned, Signed, signed, last_byte, var_number, var_uint, var_int}
use Rattle.numbers.specs.Private.Groups.{groups, followed_by}
use Rattle.numbers.proofs.Outcomes.{refuse_same, refuse_first, within_part}
use Rattle.numbers.proofs.Parts.{part_cons, part_one}
use Rattle.numbers.proofs.Digits.{followed_cons, followed_none, followed_zero}
use Rattle.numbers.proofs.LastByte.{last_here, last_on, last_high, last_low}

-- a VarInt's bytes, by its first one
signed_cons : (s : List ℕ) (at next : ℕ) → at < next → next ≤ length s → signed s at next ≡ record { negative = eqb (get_or s at 0 / 64 % 2) 1; magnitude = followed_by (get_or s at 0 % 64) (part s (at + 1) next); next = next }
unfolding var_int_negative var_int_magnitude followed_by var_uint_of of_digits
signed_cons s at next h k = rw (part_cons s at next h k, length-map)

module _ (cut v : ℕ) (s : List ℕ) (from at end : ℕ) where
  pub groups_cut : last_byte s at end ≡ end → groups cut v s from at end ≡ refuses cut end
  unfolding groups
  groups_cut e = rw (e, eq-eqb end end (λ _. end))

  pub groups_long : (l : ℕ) → last_byte s at end ≡ l → l < end → from + most_bytes ≤ l → groups cut v s from at end ≡ refuses 20 from
  unfolding groups
  groups_long l e h k = rw (e, ne_eqb l end (omega arith), lt-ltb most_bytes (l + 1 - from) (omega arith))

  pub groups_on : at < end → end ≤ length s → get_or s at 0 < 128 → groups cut v s from at end ≡ groups cut (v * 128 + get_or s at 0 % 128) s from (at + 1) end
  unfolding groups
  groups_on h k b =
      let l : ℕ = last_byte s (at + 1) end in
      rw (last_on s at end h b)
      (refuse_same (eqb l end) cut end (λ ne.
      refuse_same (ltb most_bytes (l + 1 - from)) 20 from (λ _.
      ap (λ (x : ℕ). gives (record { value = x; next = l + 1 }))
      (ap (followed_by v) (part_cons s at (l + 1) (omega (arith, last_low s (at + 1) end)) (omega (arith, last_high s (at + 1) end (omega arith), eqb-false l end ne)))
      ∙ followed_cons v (get_or s at 0) (part s (at + 1) (l + 1))))))

  pub groups_here : at < end → end ≤ length s → 128 ≤ get_or s at 0 → at < from + most_bytes → groups cut v s from at end ≡ gives (record { value = v * 128 + get_or s at 0 % 128; next = at + 1 })
  unfolding groups
  groups_here h k b n =
      rw (last_here s at end h b, ne_eqb at end (omega arith), le-ltb most_bytes (at + 1 - from) (omega arith), part_one s at (omega arith), followed_cons v (get_or s at 0) [], followed_none)

-- seven bits more keep a number of at most nine bytes within 63 bits
pub grows : (v b k : ℕ) → v < 128 ^ k → v * 128 + b % 128 < 128 ^ (k + 1)
grows v b k h =
    rw (add-one k, pow-suc 128 k, mul_comm (128 ^ k) 128)
    (omega (arith, mod-lt b {m = 128} (omega arith), h))

pub fits : (v b k : ℕ) → v < 128 ^ k → k < most_bytes → v * 128 + b % 128 < 2 ^ 63
fits v b k h n =
    let p : 128 ^ (k + 1) ≤ 128 ^ most_bytes = pow-le-pow_right {n = 128} (omega arith) {i = k + 1} {j = most_bytes} (omega arith) in
    lt_of_lt_of_le (grows v b k h) p

-- a VarUInt is its groups, with nothing before them
pub var_uint_groups : (s : List ℕ) (at end : ℕ) → at ≤ end → end ≤ length s → var_uint s at end ≡ groups 3 0 s at at end
unfolding var_uint var_number groups
var_uint_groups s at end h k =
    let l : ℕ = last_byte s at end in
    within_part s at end h k
    ∙ refuse_same (eqb l end) 3 end (λ _.
    refuse_same (ltb most_bytes (l + 1 - at)) 20 at (λ _.
    ap (λ (x : ℕ). gives (record { value = x; next = l + 1 })) (sym (followed_zero (part s at (l + 1))))))

-- a VarUInt of one byte
pub var_uint_one : (s : List ℕ) (at end : ℕ) → at < end → end ≤ length s → 128 ≤ get_or s at 0 → var_uint s at end ≡ gives (record { value = get_or s at 0 % 128; next = at + 1 })
var_uint_one s at end h k b =
    var_uint_groups s at end (omega arith) k
    ∙ groups_here 3 0 s at at end h k b (omega arith)
    ∙ ap (λ (x : ℕ). gives (record { value = x; next = at + 1 })) (omega arith)

-- a VarUInt goes on after bytes that are not the last: after one, two and three
pub goes_on_one : (s : List ℕ) (at end : ℕ) → at < end → end ≤ length s → get_or s at 0 < 128 → var_uint s at end ≡ groups 3 (get_or s at 0) s at (at + 1) end
goes_on_one s at end h k a =
    var_uint_groups s at end (omega arith) k
    ∙ groups_on 3 0 s at at end h k a
    ∙ ap (λ (x : ℕ). groups 3 x s at (at + 1) end) (omega arith)

pub goes_on_two : (s : List ℕ) (at end : ℕ) → at + 1 < end → end ≤ length s → get_or s at 0 < 128 → get_or s (at + 1) 0 < 128 → var_uint s at end ≡ groups 3 (get_or s at 0 * 128 + get_or s (at + 1) 0 % 128) s at (at + 1 + 1) end
goes_on_two s at end h k a b = goes_on_one s at end (omega arith) k a ∙ groups_on 3 (get_or s at 0) s at (at + 1) end h k b

pub goes_on_three : (s : List ℕ) (at end : ℕ) → at + 1 + 1 < end → end ≤ length s → get_or s at 0 < 128 → get_or s (at + 1) 0 < 128 → get_or s (at + 1 + 1) 0 < 128 → var_uint s at end ≡ groups 3 ((get_or s at 0 * 128 + get_or s (at + 1) 0 % 128) * 128 + get_or s (at + 1 + 1) 0 % 128) s at (at + 1 + 1 + 1) end
goes_on_three s at end h k a b c =
    goes_on_two s at end (omega arith) k a b
    ∙ groups_on 3 (get_or s at 0 * 128 + get_or s (at + 1) 0 % 128) s at (at + 1 + 1) end h k c

-- a VarUInt of two bytes
pub var_uint_two : (s : List ℕ) (at end : ℕ) → at + 1 < end → end ≤ length s → get_or s at 0 < 128 → 128 ≤ get_or s (at + 1) 0 → var_uint s at end ≡ gives (record { value = get_or s at 0 * 128 + get_or s (at + 1) 0 % 128; next = at + 1 + 1 })
var_uint_two s at end h k a b =
    goes_on_one s at end (omega arith) k a ∙ groups_here 3 (get_or s at 0) s at (at + 1) end h k b (omega arith)

-- a VarUInt of three bytes
pub var_uint_three : (s : List ℕ) (at end : ℕ) → at + 1 + 1 < end → end ≤ length s → get_or s at 0 < 128 → get_or s (at + 1) 0 < 128 → 128 ≤ get_or s (at + 1 + 1) 0 → var_uint s at end ≡ gives (record { value = (get_or s at 0 * 128 + get_or s (at + 1) 0 % 128) * 128 + get_or s (at + 1 + 1) 0 % 128; next = at + 1 + 1 + 1 })
var_uint_three s at end h k a b c =
    goes_on_two s at end (omega arith) k a b
    ∙ groups_here 3 (get_or s at 0 * 128 + get_or s (at + 1) 0 % 128) s at (at + 1 + 1) end h k c (omega arith)

-- a VarInt whose first byte is not the last is that byte's sign, and its six bits followed by groups
abbrev pub signed_by : ℕ → Unsigned → Outcome Signed
signed_by b u = gives (record { negative = eqb (b / 64 % 2) 1; magnitude = u.value; next = u.next })

pub var_int_groups : (s : List ℕ) (at end : ℕ) → at < end → end ≤ length s → get_or s at 0 < 128 → var_int s at end ≡ and_then (groups 4 (get_or s at 0 % 64) s at (at + 1) end) (signed_by (get_or s at 0))
unfolding var_int var_number groups
var_int_groups s at end h k b =
    let l : ℕ = last_byte s (at + 1) end in
    let m : ℕ = get_or s at 0 in
    rw (last_on s at end h b)
    (within_part s at end (omega arith) k
    ∙ refuse_same (eqb l end) 4 end (λ ne.
    refuse_same (ltb most_bytes (l + 1 - at)) 20 at (λ _.
    ap (λ (x : Signed). gives x)
    (signed_cons s at (l + 1) (omega (arith, last_low s (at + 1) end)) (omega (arith, last_high s (at + 1) end (omega arith), eqb-false l end ne))))
    ∙ sym (refuse_first (ltb most_bytes (l + 1 - at)) 20 at _ (signed_by m)))
    ∙ sym (refuse_first (eqb l end) 4 end _ (signed_by m)))

-- a VarInt of one byte
pub var_int_one : (s : List ℕ) (at end : ℕ) → at < end → end ≤ length s → 128 ≤ get_or s at 0 → var_int s at end ≡ gives (record { negative = eqb (get_or s at 0 / 64 % 2) 1; magnitude = get_or s at 0 % 64; next = at + 1 })
unfolding var_int var_number var_int_negative var_int_magnitude of_digits
var_int_one s at end h k b =
    within_part s at end (omega arith) k
    ∙ rw (last_here s at end h b, ne_eqb at end (omega arith), le-ltb most_bytes (at + 1 - at) (omega arith), part_one s at (omega arith))
    (ap (λ (x : ℕ). gives (record { negative = eqb (get_or s at 0 / 64 % 2) 1; magnitude = x; next = at + 1 })) (omega arith))
