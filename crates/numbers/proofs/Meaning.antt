-- The theorems of specs/Meaning.antt: the first byte from 80 up is a number's last, so that the bytes up to it are the field.
-- Assumes nothing.
use Prim.Native.Nat.{ℕ, zero, suc, ◌+◌, ◌-◌, ◌*◌, ◌%◌, ◌^◌, ◌≤◌, ◌<◌}
use native.Mathlib.Omega.{arith}
use native.Mathlib.Numerals.{add-one}
use native.Mathlib.Nat.{pow-le-pow_right, lt_of_lt_of_le, mul-le-mul_right, mod-lt}
use mathlib.Core.Path.{◌≡◌, refl, ◌∙◌, sym, ap, subst}
use mathlib.Core.List.{List, [], ◌∷◌, map}
use lib.ListN.{length, get_or, length-map}
use lib.Dec.{ltb, eqb}
use borrow.Author.Tests.{ltb-true, ltb-false, eqb-true, eqb-false, le-ltb, ne_eqb}
use Rattle.numbers.specs.Format.{VarBytes, last, more, of_digits, low_seven, var_uint_of, var_int_magnitude, int_negative, int_magnitude, NumberAt}
use Rattle.numbers.specs.Outcome.{Outcome, gives, outside_of}
use Rattle.numbers.specs.Bytes.{part}
use Rattle.numbers.specs.Answers.{Unsigned, Signed, Fixed, unsigned, signed, most_bytes, last_byte, var_number, var_uint, var_int, int}
use Rattle.numbers.specs.Meaning.{NumberMeaning, reads, outside, cut_short, too_long, VarUIntSound, VarIntSound, VarUIntComplete, VarIntComplete, VarUIntSmall, VarIntSmall, IntMeaning, IntsSound, IntsComplete}
use Rattle.numbers.proofs.Outcomes.{by_test, by_refusal, within_part, inside_order, inside_end, outside_cases, Each, given, each_within, each_pick, each_refuse, each_of, each_if, Proper, gave, proper_within, proper_refuse}
use Rattle.numbers.proofs.Parts.{part_cons, part_none, part_one, part_length, part_at}
use Rattle.numbers.proofs.Digits.{digit_below, digits_below, lows_below}
use Rattle.numbers.proofs.LastByte.{Found, found, last_is}

-- bytes below 80 and one from 80 up, which stands n places on
var_bytes : (s : List ℕ) (n at l : ℕ) → l ≡ at + n → l < length s → ((i : ℕ) → at ≤ i → i < l → get_or s i 0 < 128) → 128 ≤ get_or s l 0 → VarBytes (part s at (l + 1))
var_bytes s zero at l e h b k =
    let d : l ≡ at = omega arith in
    let k' : 128 ≤ get_or s at 0 = rw (← d) k in
    let h' : at < length s = omega arith in
    rw (d, part_one s at) (last k')
var_bytes s (suc n) at l e h b k =
    let c : at < l + 1 = omega arith in
    let d : l + 1 ≤ length s = omega arith in
    rw (part_cons s at (l + 1))
    (more (b at (omega arith) (omega arith))
    (var_bytes s n (at + 1) l (omega arith) h (λ i p q. b i (omega arith) q) k))

pub number_at : (s : List ℕ) (at end l : ℕ) → end ≤ length s → l < end → Found s at (end - at) l → NumberAt s at end (l + 1)
number_at s at end l k h f =
    let low : at ≤ l = f.low in
    record {
      bytes = var_bytes s (l - at) at l (omega arith) (omega arith) f.before (f.here (omega arith));
      begins = omega arith;
      ends = omega arith;
      within = k;
    }

-- and back: the bytes of a field but its last are below 80, and its last is not
not_empty : {bs : List ℕ} → VarBytes bs → 0 < length bs
not_empty (last h) = omega arith
not_empty (more h r) = omega arith

before_low : {bs : List ℕ} → VarBytes bs → (i : ℕ) → suc i < length bs → get_or bs i 0 < 128
before_low (last h) i l = absurd (omega arith)
before_low (more h r) zero l = h
before_low (more h r) (suc i) l = before_low r i (omega arith)

last_not_low : {bs : List ℕ} → VarBytes bs → (m : ℕ) → length bs ≡ suc m → 128 ≤ get_or bs m 0
last_not_low (last h) zero e = h
last_not_low (last h) (suc m) e = absurd (omega arith)
last_not_low (more h r) zero e = absurd (omega (arith, not_empty r))
last_not_low (more h r) (suc m) e = last_not_low r m (omega arith)

pub found_at : (s : List ℕ) (at end l : ℕ) → NumberAt s at end (l + 1) → Found s at (end - at) l
found_at s at end l n =
    let k : l + 1 ≤ length s = omega (arith, n.ends, n.within) in
    let b : at ≤ l = omega (arith, n.begins) in
    let size : length (part s at (l + 1)) ≡ l + 1 - at = part_length s at (l + 1) k in
    record {
      low = b;
      high = omega (arith, n.ends);
      before = λ i h q.
          let e : at + (i - at) ≡ i = omega arith in
          rw (← e, ← part_at s at (l + 1) (i - at) (omega arith)) (before_low n.bytes (i - at) (omega arith));
      here = λ _.
          let e : at + (l - at) ≡ l = omega arith in
          rw (← e, ← part_at s at (l + 1) (l - at) (omega arith)) (last_not_low n.bytes (l - at) (omega arith));
    }

module _ {A : Type 0} (cut : ℕ) (answer : ℕ → A) (s : List ℕ) (at end : ℕ) where
  pub number_sound : NumberMeaning cut answer s at end (var_number cut answer s at end)
  unfolding var_number
  number_sound =
      by_refusal P (outside_of s at end) 50 0 (λ h. outside (outside_cases s at end h)) (λ h.
      let a : at ≤ end = inside_order s at end h in
      let b : end ≤ length s = inside_end s at end h in
      by_refusal P (eqb l end) cut end
      (λ e. let d : l ≡ end = eqb-true l end e in cut_short a b (λ i p q. f.before i p (omega arith))) (λ e.
      let d : l < end = omega (arith, f.high, eqb-false l end e) in
      by_refusal P (ltb most_bytes (l + 1 - at)) 20 at (λ n. too_long (number_at s at end l b d f) (omega (arith, ltb-true most_bytes (l + 1 - at) n, f.low)))
      (λ n. reads (number_at s at end l b d f) (omega (arith, ltb-false most_bytes (l + 1 - at) n)))))
    where
      P : Outcome A → Type 0
      P = NumberMeaning cut answer s at end

      l : ℕ
      l = last_byte s at end

      f : Found s at (end - at) l
      f = found s at end

  pub number_complete : (next : ℕ) → NumberAt s at end next → next ≤ at + most_bytes → var_number cut answer s at end ≡ gives (answer next)
  unfolding var_number
  number_complete zero n h = absurd (omega (arith, n.begins))
  number_complete (suc l) n h =
      let m : NumberAt s at end (l + 1) = subst (NumberAt s at end) (sym (add-one l)) n in
      let e : last_byte s at end ≡ l = last_is s at end l (found_at s at end l m) in
      within_part s at end (omega (arith, n.begins, n.ends)) n.within
      ∙ rw (e, ne_eqb l end (omega (arith, n.ends)), le-ltb most_bytes (l + 1 - at) (omega arith), add-one l)

pub var-uint-sound : VarUIntSound
unfolding var_uint
var-uint-sound s at end = number_sound 3 (unsigned s at) s at end

pub var-int-sound : VarIntSound
unfolding var_int
var-int-sound s at end = number_sound 4 (signed s at) s at end

pub var-uint-complete : VarUIntComplete
unfolding var_uint
var-uint-complete s at end next n h = number_complete 3 (unsigned s at) s at end next n h

pub var-int-complete : VarIntComplete
unfolding var_int
var-int-complete s at end next n h = number_complete 4 (signed s at) s at end next n h

-- what was read, where something was
pub record ReadAt {A : Type 0} (answer : ℕ → A) (s : List ℕ) (at end : ℕ) (a : A) : Type 0 where
  pub next : ℕ
  pub number : NumberAt s at end next
  pub short : next ≤ at + most_bytes
  pub is : a ≡ answer next

pub read_at : {A : Type 0} {cut : ℕ} {answer : ℕ → A} {s : List ℕ} {at end : ℕ} {o : Outcome A} {a : A} → NumberMeaning cut answer s at end o → o ≡ gives a → ReadAt answer s at end a
read_at (reads {next} n h) e = record { next = next; number = n; short = h; is = cc }
read_at (outside h) e = absurd (let z : ◌≡◌ {A = ℕ} 0 1 = cc in omega arith)
read_at (cut_short a b h) e = absurd (let z : ◌≡◌ {A = ℕ} 0 1 = cc in omega arith)
read_at (too_long n h) e = absurd (let z : ◌≡◌ {A = ℕ} 0 1 = cc in omega arith)

pub var_uint_at : (s : List ℕ) (at end : ℕ) {u : Unsigned} → var_uint s at end ≡ gives u → ReadAt (unsigned s at) s at end u
var_uint_at s at end e = read_at (var-uint-sound s at end) e

pub var_int_at : (s : List ℕ) (at end : ℕ) {i : Signed} → var_int s at end ≡ gives i → ReadAt (signed s at) s at end i
var_int_at s at end e = read_at (var-int-sound s at end) e

pub var_uint_each : (s : List ℕ) (at end : ℕ) → Each (ReadAt (unsigned s at) s at end) (var_uint s at end)
var_uint_each s at end = each_if (var_uint s at end) (λ u e. var_uint_at s at end e)

-- nine groups of seven bits are below 2^63, and a sign and the rest below 2^62
groups_small : (bs : List ℕ) → length bs ≤ most_bytes → var_uint_of bs < 2 ^ 63
unfolding var_uint_of
groups_small bs h =
    let p : 128 ^ length bs ≤ 128 ^ most_bytes = pow-le-pow_right {n = 128} (omega arith) {i = length bs} {j = most_bytes} h in
    let q : of_digits 128 (map low_seven bs) < 128 ^ length bs = rw (← length-map bs low_seven) (digits_below (lows_below bs)) in
    lt_of_lt_of_le q p

signed_small : (bs : List ℕ) → length bs ≤ most_bytes → var_int_magnitude bs < 2 ^ 62
unfolding var_int_magnitude of_digits
signed_small [] h = omega arith
signed_small (b ∷ bs) h =
    let n : ℕ = length (map low_seven bs) in
    let l : n ≤ 8 = omega (arith, length-map bs low_seven) in
    let p : 128 ^ n ≤ 128 ^ 8 = pow-le-pow_right {n = 128} (omega arith) {i = n} {j = 8} l in
    let q : b % 64 * 128 ^ n + of_digits 128 (map low_seven bs) < 128 ^ n * 64 = digit_below 64 (b % 64) _ (128 ^ n) (mod-lt b (omega arith)) (digits_below (lows_below bs)) in
    lt_of_lt_of_le q (mul-le-mul_right 64 p)

pub var_uint_small : VarUIntSmall
var_uint_small s at end u e =
    let r : ReadAt (unsigned s at) s at end u = var_uint_at s at end e in
    let n : NumberAt s at end r.next = r.number in
    let l : length (part s at r.next) ≤ most_bytes = omega (arith, part_length s at r.next (omega (arith, n.ends, n.within)), r.short) in
    rw r.is (groups_small (part s at r.next) l)

pub var_int_small : VarIntSmall
var_int_small s at end i e =
    let r : ReadAt (signed s at) s at end i = var_int_at s at end e in
    let n : NumberAt s at end r.next = r.number in
    let l : length (part s at r.next) ≤ most_bytes = omega (arith, part_length s at r.next (omega (arith, n.ends, n.within)), r.short) in
    rw r.is (signed_small (part s at r.next) l)

-- where a VarUInt ends, and how large it is
pub record Bounded (at end : ℕ) (u : Unsigned) : Type 0 where
  pub begins : at < u.next
  pub ends : u.next ≤ end
  pub short : u.next ≤ at + most_bytes
  pub small : u.value < 2 ^ 63

pub var_uint_bounded : (s : List ℕ) (at end : ℕ) → Each (Bounded at end) (var_uint s at end)
var_uint_bounded s at end =
    each_if (var_uint s at end) (λ u e.
    let r : ReadAt (unsigned s at) s at end u = var_uint_at s at end e in
    let n : u.next ≡ r.next = ap (λ (x : Unsigned). x.next) r.is in
    record {
      begins = omega (arith, r.number.begins);
      ends = omega (arith, r.number.ends);
      short = omega (arith, r.short);
      small = var_uint_small s at end u e;
    })

-- in a part of the slice a VarUInt is not refused with 50
pub var_uint_proper : (s : List ℕ) (at end : ℕ) → at ≤ end → end ≤ length s → Proper (var_uint s at end)
unfolding var_uint var_number
var_uint_proper s at end h k =
    proper_within s at end h k
    (proper_refuse (eqb (last_byte s at end) end) 3 end (λ e. omega arith) (λ _.
    proper_refuse (ltb most_bytes (last_byte s at end + 1 - at)) 20 at (λ e. omega arith) (λ _. gave)))

int_sound : (s : List ℕ) (at end size : ℕ) → Each (IntMeaning s at end size) (int s at end size)
unfolding int int_negative int_magnitude of_digits
int_sound s at end size =
    each_within s at end (λ a b.
    each_pick (eqb size 0)
    (λ z.
    let e : at + size ≡ at = omega (arith, eqb-true size 0 z) in
    given
    (record {
      sign = rw (e, part_none s at);
      magnitude = rw (e, part_none s at);
      last = sym e;
      low = omega arith;
      order = omega arith;
      ends = a;
      within = b;
    }))
    (λ z.
    each_refuse (ltb (end - at) size) 9 at (λ h.
    let k : size ≤ end - at = ltb-false (end - at) size h in
    let n : at < at + size = omega (arith, eqb-false size 0 z) in
    given
    (record {
      sign = refl;
      magnitude = rw (part_cons s at (at + size) n (omega arith));
      last = refl;
      low = omega arith;
      order = omega arith;
      ends = omega arith;
      within = b;
    }))))

pub ints-sound : IntsSound
ints-sound s at end size i e = each_of (int_sound s at end size) e

pub ints-complete : IntsComplete
unfolding int
ints-complete s at end size h k =
    subst P (sym (within_part s at end (omega arith) k))
    (by_test P (eqb size 0) (λ _. (_, refl)) (λ _.
    by_refusal P (ltb (end - at) size) 9 at (λ l. absurd (omega (arith, ltb-true (end - at) size l))) (λ _. (_, refl))))
  where
    P : Outcome Fixed → Type 0
    P o = (i : Fixed) × (o ≡ gives i)
