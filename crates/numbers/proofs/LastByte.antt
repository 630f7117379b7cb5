-- Where a number's last byte stands: at the first byte from 80 up, else one place on, and at the end of the part where there is none.
-- Assumes nothing.
use Prim.Native.Nat.{ℕ, zero, suc, ◌+◌, ◌-◌, ◌≤◌, ◌<◌}
use native.Mathlib.Omega.{arith}
use native.Mathlib.Numerals.{add-one}
use native.Mathlib.Nat.{eq-or-lt_of_le, le_antisymm, lt_of_not-le, le_of_suc-le-suc}
use mathlib.Core.Path.{◌≡◌, subst}
use mathlib.Core.Logic.{⊎_elim}
use mathlib.Core.List.{List}
use lib.ListN.{get_or}
use lib.Dec.{leb}
use borrow.Author.Tests.{le-leb, lt-leb, leb-true, leb-false}
use Rattle.numbers.specs.Answers.{last_among, last_byte}
use Rattle.numbers.proofs.Outcomes.{by_test}

module _ (s : List ℕ) where
  pub last_here : (at end : ℕ) → at < end → 128 ≤ get_or s at 0 → last_byte s at end ≡ at
  unfolding last_byte last_among
  last_here at end h b = let e : end - at ≡ suc (end - (at + 1)) = omega arith in rw (e, le-leb _ _ b)

  pub last_on : (at end : ℕ) → at < end → get_or s at 0 < 128 → last_byte s at end ≡ last_byte s (at + 1) end
  unfolding last_byte last_among
  last_on at end h b = let e : end - at ≡ suc (end - (at + 1)) = omega arith in rw (e, add-one at, lt-leb _ _ b)

  pub last_none : (end : ℕ) → last_byte s end end ≡ end
  unfolding last_byte last_among
  last_none end = let e : end - end ≡ 0 = omega arith in rw e

-- the last byte is at l, among n bytes from `at` on: those before it are below 80, and so are all where it is at their end
pub record Found (s : List ℕ) (at n l : ℕ) : Type 0 where
  pub low : at ≤ l
  pub high : l ≤ at + n
  pub before : (i : ℕ) → at ≤ i → i < l → get_or s i 0 < 128
  pub here : l < at + n → 128 ≤ get_or s l 0

found_on : (s : List ℕ) (at n l : ℕ) → get_or s at 0 < 128 → Found s (suc at) n l → Found s at (suc n) l
found_on s at n l b r =
    record {
      low = omega (arith, r.low);
      high = omega (arith, r.high);
      before = λ i h k. first_or_later i h k;
      here = λ h. r.here (omega arith);
    }
  where
    first_or_later : (i : ℕ) → at ≤ i → i < l → get_or s i 0 < 128
    first_or_later i h k =
        ⊎_elim (λ (e : at ≡ i). rw (← e) b) (λ (e : at < i). r.before i e k) (eq-or-lt_of_le h)

found_among : (s : List ℕ) (n at : ℕ) → Found s at n (last_among s at n)
unfolding last_among
found_among s zero at =
    record { low = omega arith; high = omega arith; before = λ i h k. absurd (omega arith); here = λ h. absurd (omega arith) }
found_among s (suc n) at =
    by_test (Found s at (suc n)) (leb 128 (get_or s at 0))
    (λ h. record { low = omega arith; high = omega arith; before = λ i h k. absurd (omega arith); here = λ _. leb-true _ _ h })
    (λ h. found_on s at n (last_among s (suc at) n) (leb-false _ _ h) (found_among s n (suc at)))

pub found : (s : List ℕ) (at end : ℕ) → Found s at (end - at) (last_byte s at end)
unfolding last_byte
found s at end = found_among s (end - at) at

pub last_high : (s : List ℕ) (at end : ℕ) → at ≤ end → last_byte s at end ≤ end
last_high s at end h = omega (arith, (found s at end).high)

pub last_low : (s : List ℕ) (at end : ℕ) → at ≤ last_byte s at end
last_low s at end = (found s at end).low

not_before : {n m : ℕ} → (n < m → ⊥) → m ≤ n
not_before h = le_of_suc-le-suc (lt_of_not-le h)

-- a byte from 80 up with none before it is the last
pub last_is : (s : List ℕ) (at end l : ℕ) → Found s at (end - at) l → last_byte s at end ≡ l
last_is s at end l f = le_antisymm (not_before above) (not_before below)
  where
    g : Found s at (end - at) (last_byte s at end)
    g = found s at end

    below : last_byte s at end < l → ⊥
    below h =
        let b : get_or s (last_byte s at end) 0 < 128 = f.before _ g.low h in
        let a : 128 ≤ get_or s (last_byte s at end) 0 = g.here (omega (arith, f.high)) in
        omega arith

    above : l < last_byte s at end → ⊥
    above h =
        let b : get_or s l 0 < 128 = g.before _ f.low h in
        let a : 128 ≤ get_or s l 0 = f.here (omega (arith, g.high)) in
        omega arith

-- two slices with the same bytes up to and with the last one have it at the same place
pub last_local : (s t : List ℕ) (at end l : ℕ) → last_byte s at end ≡ l → ((i : ℕ) → at ≤ i → i < end → i ≤ l → get_or s i 0 ≡ get_or t i 0) → last_byte t at end ≡ l
last_local s t at end l e same =
    last_is t at end l
    (record {
      low = f.low;
      high = f.high;
      before = λ i h k. rw (← same i h (omega (arith, f.high)) (omega arith)) (f.before i h k);
      here = λ h. rw (← same l f.low (omega (arith, f.low)) (omega arith)) (f.here h);
    })
  where
    f : Found s at (end - at) l
    f = subst (Found s at (end - at)) e (found s at end)
