-- A VarUInt of three bytes at most: what is read as one is the VarUInt, and there is none where three bytes have no last one.
-- Assumes nothing.
use Prim.Native.Nat.{ℕ, ◌+◌, ◌-◌, ◌*◌, ◌%◌, ◌≤◌, ◌<◌}
use native.Mathlib.Omega.{arith}
use native.Mathlib.Nat.{eq-or-lt_of_le}
use mathlib.Core.Path.{◌≡◌, refl, ap, subst}
use mathlib.Core.Logic.{⊎_elim}
use mathlib.Core.List.{List}
use lib.ListN.{length, get_or}
use lib.Dec.{leb}
use borrow.Author.Tests.{le-leb, lt-leb, leb-true, leb-false}
use Rattle.numbers.specs.Outcome.{Outcome, gives, refuses}
use Rattle.numbers.specs.Answers.{Unsigned, unsigned, var_uint}
use Rattle.numbers.specs.ShortVarUInt.{short_bytes, short, none, short_var_uint_of}
use Rattle.numbers.specs.Format.{NumberAt}
use Rattle.numbers.specs.Private.Groups.{GoesOn}
use Rattle.numbers.proofs.Grouping.{var_uint_groups, goes_on_one, goes_on_two, goes_on_three}
use Rattle.numbers.proofs.Outcomes.{by_test, Each, given, refused, each_of}
use Rattle.numbers.proofs.Meaning.{ReadAt, var_uint_at, found_at, Bounded, var_uint_bounded}

-- a short VarUInt is what the reading gives
pub short_given : (at : ℕ) (o : Outcome Unsigned) {u : Unsigned} → short_var_uint_of at o ≡ short u → o ≡ gives u
short_given at (gives v) {u} =
    by_test (λ x. x ≡ short u → gives v ≡ gives u) (leb v.next (at + short_bytes)) (λ _ e. cc) (λ _ e. absurd (let z : ◌≡◌ {A = ℕ} 0 1 = cc in omega arith))
short_given at (refuses n p) = λ e. absurd (let z : ◌≡◌ {A = ℕ} 0 1 = cc in omega arith)

-- which ends within three bytes
pub short_near : (at : ℕ) (o : Outcome Unsigned) {u : Unsigned} → short_var_uint_of at o ≡ short u → u.next ≤ at + short_bytes
short_near at (gives v) {u} =
    by_test (λ x. x ≡ short u → u.next ≤ at + short_bytes) (leb v.next (at + short_bytes)) (λ h e. let q : v ≡ u = cc in subst (λ (x : Unsigned). x.next ≤ at + short_bytes) q (leb-true v.next (at + short_bytes) h)) (λ _ e. absurd (let z : ◌≡◌ {A = ℕ} 0 1 = cc in omega arith))
short_near at (refuses n p) = λ e. absurd (let z : ◌≡◌ {A = ℕ} 0 1 = cc in omega arith)

-- where it ends, and how large it is
pub short_bounded : (s : List ℕ) (at end : ℕ) {u : Unsigned} → short_var_uint_of at (var_uint s at end) ≡ short u → Bounded at end u
short_bounded s at end e = each_of (var_uint_bounded s at end) (short_given at (var_uint s at end) e)

-- and back: what ends within three bytes is short
pub given_short : (at : ℕ) {o : Outcome Unsigned} {u : Unsigned} → o ≡ gives u → u.next ≤ at + short_bytes → short_var_uint_of at o ≡ short u
given_short at {o} {u} e h = rw (e, le-leb u.next (at + short_bytes) h)

none_if : (at : ℕ) (o : Outcome Unsigned) → ((u : Unsigned) → o ≡ gives u → at + short_bytes < u.next) → short_var_uint_of at o ≡ none
none_if at (gives u) h = rw (lt-leb u.next (at + short_bytes) (h u refl))
none_if at (refuses n p) h = refl

-- where nothing is said, a VarUInt that is read has more bytes
pub none_long : (at : ℕ) (o : Outcome Unsigned) → short_var_uint_of at o ≡ none → Each (λ u. at + short_bytes < u.next) o
none_long at (gives u) =
    by_test (λ x. x ≡ none → Each (λ v. at + short_bytes < v.next) (gives u)) (leb u.next (at + short_bytes)) (λ _ e. absurd (let z : ◌≡◌ {A = ℕ} 0 1 = cc in omega arith)) (λ h _.
    given (omega (arith, leb-false u.next (at + short_bytes) h)))
none_long at (refuses n p) = λ _. refused

-- a byte below 80 is before the last one
before_last : (s : List ℕ) (i l : ℕ) → 128 ≤ get_or s l 0 → i ≤ l → get_or s i 0 < 128 → i + 1 ≤ l
before_last s i l b h low =
    ⊎_elim (λ (e : i ≡ l). let a : get_or s l 0 < 128 = rw (← e) low in absurd (omega arith)) (λ (e : i < l). omega arith) (eq-or-lt_of_le h)

-- there is none where the part's first three bytes, as many as it has, are below 80: it may be empty, or outside the slice
pub short_none : (s : List ℕ) (at end : ℕ) → (at < end → end ≤ length s → get_or s at 0 < 128) → (at + 1 < end → end ≤ length s → get_or s (at + 1) 0 < 128) → (at + 1 + 1 < end → end ≤ length s → get_or s (at + 1 + 1) 0 < 128) → short_var_uint_of at (var_uint s at end) ≡ none
short_none s at end first second third = none_if at (var_uint s at end) (λ u e. past u (var_uint_at s at end e))
  where
    past : (u : Unsigned) → ReadAt (unsigned s at) s at end u → at + short_bytes < u.next
    past u r =
        let n : NumberAt s at end r.next = r.number in
        let l : ℕ = r.next - 1 in
        let q : r.next ≡ l + 1 = omega (arith, n.begins) in
        let h : l < end = omega (arith, n.ends) in
        let k : end ≤ length s = n.within in
        let b : 128 ≤ get_or s l 0 = (found_at s at end l (subst (NumberAt s at end) q n)).here (omega (arith, n.begins)) in
        let one : at + 1 ≤ l = before_last s at l b (omega (arith, n.begins)) (first (omega (arith, n.begins)) k) in
        let two : at + 1 + 1 ≤ l = before_last s (at + 1) l b one (second (omega arith) k) in
        let three : at + 1 + 1 + 1 ≤ l = before_last s (at + 1 + 1) l b two (third (omega arith) k) in
        let e : u.next ≡ r.next = ap (λ (x : Unsigned). x.next) r.is in
        omega arith

-- it goes on past the bytes read, none of them the last: the part has no more than those, or there are three
module _ (s : List ℕ) (at end : ℕ) (k : end ≤ length s) where
  pub more_none : at ≡ end → GoesOn s at end 0 at
  more_none e =
      let n : at - at ≡ 0 = omega arith in
      record {
        begins = omega arith;
        ends = omega arith;
        within = k;
        small = rw n (omega arith);
        rest = var_uint_groups s at end (omega arith) k;
        long = short_none s at end (λ h m. omega arith) (λ h m. omega arith) (λ h m. omega arith);
      }

  pub more_one : at + 1 ≡ end → get_or s at 0 < 128 → GoesOn s at end (get_or s at 0) (at + 1)
  more_one e a =
      let n : at + 1 - at ≡ 1 = omega arith in
      record {
        begins = omega arith;
        ends = omega arith;
        within = k;
        small = rw n (omega arith);
        rest = goes_on_one s at end (omega arith) k a;
        long = short_none s at end (λ h m. a) (λ h m. omega arith) (λ h m. omega arith);
      }

  pub more_two : at + 1 + 1 ≡ end → get_or s at 0 < 128 → get_or s (at + 1) 0 < 128 → GoesOn s at end (get_or s at 0 * 128 + get_or s (at + 1) 0 % 128) (at + 1 + 1)
  more_two e a b =
      let n : at + 1 + 1 - at ≡ 2 = omega arith in
      record {
        begins = omega arith;
        ends = omega arith;
        within = k;
        small = rw n (omega arith);
        rest = goes_on_two s at end (omega arith) k a b;
        long = short_none s at end (λ h m. a) (λ h m. b) (λ h m. omega arith);
      }

  pub more_three : at + 1 + 1 < end → get_or s at 0 < 128 → get_or s (at + 1) 0 < 128 → get_or s (at + 1 + 1) 0 < 128 → GoesOn s at end ((get_or s at 0 * 128 + get_or s (at + 1) 0 % 128) * 128 + get_or s (at + 1 + 1) 0 % 128) (at + 1 + 1 + 1)
  more_three e a b c =
      let n : at + 1 + 1 + 1 - at ≡ 3 = omega arith in
      record {
        begins = omega arith;
        ends = omega arith;
        within = k;
        small = rw n (omega arith);
        rest = goes_on_three s at end e k a b c;
        long = short_none s at end (λ h m. a) (λ h m. b) (λ h m. c);
      }
