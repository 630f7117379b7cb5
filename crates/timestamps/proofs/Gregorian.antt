-- The theorems of specs/Calendar.antt: the tests are the calendar's rules, month by month, and four centuries are counted.
-- Assumes nothing.
use Prim.Native.Nat.{ℕ, zero, suc, ◌%◌, ◌≤◌}
use native.Mathlib.Omega.{arith}
use mathlib.Core.Path.{◌≡◌, refl, ◌∙◌, sym}
use mathlib.Core.Bool.{Bool, true, false, true≢false}
use lib.Dec.{eqb}
use borrow.Author.Tests.{eq-eqb, ne_eqb, eqb-true, eqb-false}
use Rattle.numbers.specs.Outcome.{pick}
use Rattle.numbers.proofs.Outcomes.{by_test}
use Rattle.timestamps.specs.Calendar.{leap_year, short_month, days_in, Leap, by_four, by_four_hundred, DaysOf, january, february, leap_february, march, april, may, june, july, august, september, october, november, december}
use Rattle.timestamps.specs.Calendar.{MonthsSound, MonthsComplete, days_of_months, days_of_years, FourCenturies}

leap_sound : (year : ℕ) → leap_year year ≡ true → Leap year
unfolding leap_year
leap_sound year =
    by_test (λ b. b ≡ true → Leap year) (eqb (year % 100) 0)
    (λ _ e. by_four_hundred (eqb-true _ _ e))
    (λ h e. by_four (eqb-true _ _ e) (eqb-false _ _ h))

leap_complete : (year : ℕ) → Leap year → leap_year year ≡ true
unfolding leap_year
leap_complete year (by_four h k) = rw (ne_eqb (year % 100) 0 k, eq-eqb (year % 4) 0 h)
leap_complete year (by_four_hundred h) =
    let k : year % 100 ≡ 0 = omega arith in rw (eq-eqb (year % 100) 0 k, eq-eqb (year % 400) 0 h)

-- what holds of the twelve months holds of each
module _ (P : ℕ → Type 0) (jan : P 1) (feb : P 2) (mar : P 3) (apr : P 4) (may' : P 5) (jun : P 6) (jul : P 7) (aug : P 8) (sep : P 9) (oct : P 10) (nov : P 11) (dec : P 12) where
  by_month : (m : ℕ) → 1 ≤ m → m ≤ 12 → P m
  by_month zero l h = absurd (omega arith)
  by_month (suc zero) l h = jan
  by_month (suc (suc zero)) l h = feb
  by_month (suc (suc (suc zero))) l h = mar
  by_month (suc (suc (suc (suc zero)))) l h = apr
  by_month (suc (suc (suc (suc (suc zero))))) l h = may'
  by_month (suc (suc (suc (suc (suc (suc zero)))))) l h = jun
  by_month (suc (suc (suc (suc (suc (suc (suc zero))))))) l h = jul
  by_month (suc (suc (suc (suc (suc (suc (suc (suc zero)))))))) l h = aug
  by_month (suc (suc (suc (suc (suc (suc (suc (suc (suc zero))))))))) l h = sep
  by_month (suc (suc (suc (suc (suc (suc (suc (suc (suc (suc zero)))))))))) l h = oct
  by_month (suc (suc (suc (suc (suc (suc (suc (suc (suc (suc (suc zero))))))))))) l h = nov
  by_month (suc (suc (suc (suc (suc (suc (suc (suc (suc (suc (suc (suc zero)))))))))))) l h = dec
  by_month (suc (suc (suc (suc (suc (suc (suc (suc (suc (suc (suc (suc (suc m))))))))))))) l h = absurd (omega arith)

pub months-sound : MonthsSound
unfolding days_in short_month
months-sound year =
    by_month (λ m. DaysOf year m (days_in year m)) january second march april may june july august september october november december
  where
    second : DaysOf year 2 (pick (leap_year year) 29 28)
    second =
        by_test (DaysOf year 2) (leap_year year)
        (λ e. leap_february (leap_sound year e))
        (λ e. february (λ l. true≢false (sym (leap_complete year l) ∙ e)))

not_leap : (year : ℕ) (b : Bool) → leap_year year ≡ b → (Leap year → ⊥) → b ≡ false
not_leap year true e h = absurd (h (leap_sound year e))
not_leap year false e h = refl

pub months-complete : MonthsComplete
unfolding days_in short_month
months-complete year month days january = refl
months-complete year month days (february h) = rw (not_leap year (leap_year year) refl h)
months-complete year month days (leap_february h) = rw (leap_complete year h)
months-complete year month days march = refl
months-complete year month days april = refl
months-complete year month days may = refl
months-complete year month days june = refl
months-complete year month days july = refl
months-complete year month days august = refl
months-complete year month days september = refl
months-complete year month days october = refl
months-complete year month days november = refl
months-complete year month days december = refl

pub four-centuries : FourCenturies
unfolding days_of_years days_of_months days_in short_month leap_year
four-centuries = refl

-- no month has more than 31 days
pub days_most : (year month : ℕ) → days_in year month ≤ 31
unfolding days_in
days_most year month =
    by_test (λ n. n ≤ 31) (eqb month 2)
    (λ _. by_test (λ n. n ≤ 31) (leap_year year) (λ _. omega arith) (λ _. omega arith))
    (λ _. by_test (λ n. n ≤ 31) (short_month month) (λ _. omega arith) (λ _. omega arith))
