-- The Gregorian calendar: which years are leap years, and how many days a month has; as functions, as the calendar's own rules, and that they are the same.
-- The theorems are proved in proofs/Gregorian.antt.
-- Assumes nothing.
use Rattle.std.specs.Prelude.{ℕ, zero, suc, ◌+◌, ◌%◌, ◌≤◌, ◌≡◌, Bool, true, eqb}
use Rattle.numbers.specs.Outcome.{pick}

-- a century is a leap year by 400, any other year by 4
unfoldable pub leap_year : ℕ → Bool
leap_year year = pick (eqb (year % 100) 0) (eqb (year % 400) 0) (eqb (year % 4) 0)

-- "Thirty days hath September, April, June and November": all the rest have 31, but for February
unfoldable pub short_month : ℕ → Bool
short_month month = pick (eqb month 4) true (pick (eqb month 6) true (pick (eqb month 9) true (eqb month 11)))

-- the days of a month, of which January is 1
unfoldable pub days_in : ℕ → ℕ → ℕ
days_in year month = pick (eqb month 2) (pick (leap_year year) 29 28) (pick (short_month month) 30 31)

-- "Every year that is exactly divisible by four is a leap year, except for years that are exactly divisible by 100, but these centurial years are leap years
-- if they are exactly divisible by 400."
pub data Leap (year : ℕ) : Type 0 where
  by_four : year % 4 ≡ 0 → (year % 100 ≡ 0 → ⊥) → Leap year
  by_four_hundred : year % 400 ≡ 0 → Leap year

-- how many days each month of a year has
pub data DaysOf (year : ℕ) : ℕ → ℕ → Type 0 where
  january : DaysOf year 1 31
  february : (Leap year → ⊥) → DaysOf year 2 28
  leap_february : Leap year → DaysOf year 2 29
  march : DaysOf year 3 31
  april : DaysOf year 4 30
  may : DaysOf year 5 31
  june : DaysOf year 6 30
  july : DaysOf year 7 31
  august : DaysOf year 8 31
  september : DaysOf year 9 30
  october : DaysOf year 10 31
  november : DaysOf year 11 30
  december : DaysOf year 12 31

-- each month has these days, and what is such is a month with them
abbrev pub MonthsSound : Type 0
MonthsSound = (year month : ℕ) → 1 ≤ month → month ≤ 12 → DaysOf year month (days_in year month)

abbrev pub MonthsComplete : Type 0
MonthsComplete = (year month days : ℕ) → DaysOf year month days → days_in year month ≡ days

-- the days of the first n months of a year, and of the first n years
unfoldable pub days_of_months : ℕ → ℕ → ℕ
days_of_months year zero = 0
days_of_months year (suc n) = days_of_months year n + days_in year (suc n)

unfoldable pub days_of_years : ℕ → ℕ
days_of_years zero = 0
days_of_years (suc n) = days_of_years n + days_of_months (suc n) 12

-- the calendar repeats after 400 years, which have 146,097 days
abbrev pub FourCenturies : Type 0
FourCenturies = days_of_years 400 ≡ 146097
