-- Where a magnitude begins: at its first byte that is not 0, else one place on, and at its end where there is none; what stands before is worth nothing.
-- Assumes nothing.
use Prim.Native.Nat.{ℕ, zero, suc, ◌+◌, ◌-◌, ◌*◌, ◌^◌, ◌≤◌, ◌<◌}
use native.Mathlib.Omega.{arith}
use native.Mathlib.Numerals.{add-one}
use native.Mathlib.Nat.{eq-or-lt_of_le, lt_of_not-le, le_of_suc-le-suc, le_antisymm, pow-le-pow_right, mul-le-mul_right}
use mathlib.Core.Path.{◌≡◌, refl, ◌∙◌, sym, ap}
use mathlib.Core.Logic.{⊎_elim}
use mathlib.Core.Bool.{Bool, true, false, not, cond}
use mathlib.Core.List.{List, [], ◌∷◌}
use lib.ListN.{length, get_or, take, drop}
use lib.Dec.{eqb, ltb}
use Rattle.std.specs.List.{position, position_or_len}
use Rattle.std.proofs.Common.{Some, None}
use Rattle.std.proofs.lemmas.List.Sums.{prefix_len-le-length}
use borrow.Author.Tests.{eqb-true, eqb-false, ltb-false}
use Rattle.numbers.specs.Format.{uint_of, of_digits}
use Rattle.numbers.specs.Bytes.{part, Same}
use Rattle.numbers.specs.Outcome.{outside_of}
use Rattle.numbers.proofs.Outcomes.{by_test, by_case, inside, pick_same, inside_order, inside_end}
use Rattle.numbers.proofs.Parts.{part_cons, part_none, part_length, part_taken}
use Rattle.numbers.proofs.Locality.{outside_local}
use Rattle.bodies.specs.Magnitude.{nonzero_among, significant_from}

-- the first place whose byte is not zero, by the library's word for it
among_position : (s : List ℕ) (n at end : ℕ) → at + n ≡ end → end ≤ length s → nonzero_among s at n ≡ at + position_or_len (λ b. not (eqb b 0)) (part s at end)
unfolding nonzero_among
among_position s zero at end e k = let d : at ≡ end = omega arith in rw (d, part_none s end) (omega arith)
among_position s (suc n) at end e k =
    rw (part_cons s at end (omega arith) k)
    (by_case (eqb (get_or s at 0) 0)
    (λ z. rw z (among_position s n (suc at) end (omega arith) k ∙ rw (add-one at) (omega arith)))
    (λ z. rw z (omega arith)))

position_found : (t : Bool) (k z : ℕ) → cond t (Some k) None ≡ Some z → k ≡ z
position_found true k z e = cc
position_found false k z e = cc

position_missed : (k n : ℕ) → cond (ltb k n) (Some k) None ≡ None → n ≤ k
position_missed k n = by_case (ltb k n) (λ t. rw t (λ e. cc)) (λ t _. ltb-false k n t)

-- no bytes, and a zero byte before the others, are worth nothing
uint_none : uint_of [] ≡ 0
unfolding uint_of of_digits
uint_none = refl

uint_zero : (bs : List ℕ) → uint_of (0 ∷ bs) ≡ uint_of bs
unfolding uint_of of_digits
uint_zero bs = omega arith

uint_first : (b : ℕ) (bs : List ℕ) → (b ≡ 0 → ⊥) → uint_of (b ∷ bs) ≡ 0 → ⊥
unfolding uint_of of_digits
uint_first b bs h e =
    let p : 1 ≤ 256 ^ length bs = pow-le-pow_right {n = 256} (omega arith) {i = 0} {j = length bs} (omega arith) in
    let d : 1 ≤ b = omega arith in
    let q : 1 * 256 ^ length bs ≤ b * 256 ^ length bs = mul-le-mul_right (256 ^ length bs) d in
    omega arith

-- r is the first place of a byte that is not 0, of those from `at` to `end`
pub record Begins (s : List ℕ) (at end r : ℕ) : Type 0 where
  pub low : at ≤ r
  pub high : r ≤ end
  pub zeros : (i : ℕ) → at ≤ i → i < r → get_or s i 0 ≡ 0
  pub here : r < end → get_or s r 0 ≡ 0 → ⊥
  pub worth : uint_of (part s r end) ≡ uint_of (part s at end)

begins_among : (s : List ℕ) (n at end : ℕ) → at + n ≡ end → end ≤ length s → Begins s at end (nonzero_among s at n)
unfolding nonzero_among
begins_among s zero at end e k =
    record { low = omega arith; high = omega arith; zeros = λ i l h. absurd (omega arith); here = λ h. absurd (omega arith); worth = refl }
begins_among s (suc n) at end e k =
    by_test (Begins s at end) (eqb (get_or s at 0) 0)
    (λ z.
    let r : Begins s (suc at) end (nonzero_among s (suc at) n) = begins_among s n (suc at) end (omega arith) k in
    record {
      low = omega (arith, r.low);
      high = r.high;
      zeros = λ i l h.
          ⊎_elim (λ (q : at ≡ i). rw (← q) (eqb-true (get_or s at 0) 0 z)) (λ (q : at < i). r.zeros i q h) (eq-or-lt_of_le l);
      here = r.here;
      worth =
          r.worth
          ∙ sym
          (ap uint_of (part_cons s at end (omega arith) k)
          ∙ rw (eqb-true (get_or s at 0) 0 z, add-one at) (uint_zero (part s (suc at) end)));
    })
    (λ z.
    record {
      low = omega arith;
      high = omega arith;
      zeros = λ i l h. absurd (omega arith);
      here = λ _. eqb-false (get_or s at 0) 0 z;
      worth = refl;
    })

-- there is one such place
begins_le : {s : List ℕ} {at end r q : ℕ} → Begins s at end r → Begins s at end q → r ≤ q
begins_le {r = r} {q} b c =
    le_of_suc-le-suc (lt_of_not-le (λ (l : q < r). c.here (omega (arith, b.high)) (b.zeros q c.low l)))

module _ (s : List ℕ) (at end : ℕ) (h : at ≤ end) (k : end ≤ length s) where
  pub significant_inside : significant_from s at end ≡ nonzero_among s at (end - at)
  unfolding significant_from
  significant_inside = rw (inside s at end h k)

  significant_position : significant_from s at end ≡ at + position_or_len (λ b. not (eqb b 0)) (part s at end)
  significant_position = significant_inside ∙ among_position s (end - at) at end (omega arith) k

  pub significant_begins : Begins s at end (significant_from s at end)
  significant_begins = rw significant_inside (begins_among s (end - at) at end (omega arith) k)

  pub significant_one : {r : ℕ} → Begins s at end r → significant_from s at end ≡ r
  significant_one b = le_antisymm (begins_le significant_begins b) (begins_le b significant_begins)

  -- it is the part's end exactly where the magnitude is zero
  pub significant_end : significant_from s at end ≡ end → uint_of (part s at end) ≡ 0
  significant_end e =
      sym significant_begins.worth ∙ ap (λ (r : ℕ). uint_of (part s r end)) e ∙ ap uint_of (part_none s end) ∙ uint_none

  pub significant_zero : uint_of (part s at end) ≡ 0 → significant_from s at end ≡ end
  significant_zero z = ⊎_elim (λ (e : r ≡ end). e) (λ (l : r < end). absurd (short l)) (eq-or-lt_of_le significant_begins.high)
    where
      r : ℕ
      r = significant_from s at end

      short : r < end → ⊥
      short l =
          uint_first (get_or s r 0) (part s (r + 1) end) (significant_begins.here l)
          (ap uint_of (sym (part_cons s r end l k)) ∙ significant_begins.worth ∙ z)

-- two slices of one length with the same bytes there have it at the same place
among_local : (s t : List ℕ) (n at end : ℕ) → at + n ≡ end → Same s t at end → nonzero_among s at n ≡ nonzero_among t at n
unfolding nonzero_among
among_local s t zero at end e same = refl
among_local s t (suc n) at end e same =
    rw (← same at (omega arith) (omega arith))
    (pick_same (eqb (get_or s at 0) 0) (λ _. among_local s t n (suc at) end (omega arith) (λ i a b. same i (omega arith) b)) (λ _. refl))

pub significant_local : (s t : List ℕ) (at end : ℕ) → length s ≡ length t → Same s t at end → significant_from s at end ≡ significant_from t at end
unfolding significant_from
significant_local s t at end e same =
    rw (← outside_local s t at end e)
    (pick_same (outside_of s at end) (λ _. refl) (λ o.
    let h : at ≤ end = inside_order s at end o in among_local s t (end - at) at end (omega arith) same))

-- where the first byte that is not zero was found, and where there was none
module _ (s : List ℕ) (at end : ℕ) (inside : outside_of s at end ≡ false) where
  order : at ≤ end
  order = inside_order s at end inside

  within : end ≤ length s
  within = inside_end s at end inside

  taken : take (end - at) (drop at s) ≡ part s at end
  taken = part_taken s at end order within

  pub significant_some : (z : ℕ) → position (λ b. not (eqb b 0)) (take (end - at) (drop at s)) ≡ Some z → at + z ≡ significant_from s at end
  significant_some z e =
      let e' : position (λ b. not (eqb b 0)) (part s at end) ≡ Some z = rw taken at e in
      rw (← position_found _ _ z e') (sym (significant_position s at end order within))

  pub significant_none : position (λ b. not (eqb b 0)) (take (end - at) (drop at s)) ≡ None → end ≡ significant_from s at end
  significant_none e =
      let e' : position (λ b. not (eqb b 0)) (part s at end) ≡ None = rw taken at e in
      let q : length (part s at end) ≤ position_or_len (λ b. not (eqb b 0)) (part s at end) = position_missed _ _ e' in
      let r : position_or_len (λ b. not (eqb b 0)) (part s at end) ≤ length (part s at end) = prefix_len-le-length _ (part s at end) in
      omega (arith, order, part_length s at end within, significant_position s at end order within)

pub significant_out : (s : List ℕ) (at end : ℕ) → outside_of s at end ≡ true → at ≡ significant_from s at end
unfolding significant_from
significant_out s at end o = rw o
