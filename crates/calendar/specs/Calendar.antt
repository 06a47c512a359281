-- The Gregorian calendar from year 1 on: leap years, the lengths of months and years, the moments from 0001-01-01T00:00:00
-- to 9999-12-31T23:59:59, and the whole seconds from the first of them to a moment. Definitions only.
use Rattle.std.specs.Prelude.{ℕ, zero, suc, ◌+◌, ◌-◌, ◌*◌, ◌/◌, ◌%◌, ◌≤◌, ◌<◌, ◌≡◌, Bool, true, false, cond, List, [], ◌∷◌, leb, eqb, get_or}
use Rattle.integers.specs.Tests.{◌and◌}
use Rattle.calendar.specs.declared.Moment.{Moment}

-- ---- years and months

-- a year that 100 divides is a leap year if 400 divides it, any other if 4 does
unfoldable pub leap : ℕ → Bool
leap y = cond (eqb (y % 100) 0) (eqb (y % 400) 0) (eqb (y % 4) 0)

-- the days of the twelve months
unfoldable pub lengths : Bool → List ℕ
lengths in_leap_year = 31 ∷ cond in_leap_year 29 28 ∷ 31 ∷ 30 ∷ 31 ∷ 30 ∷ 31 ∷ 31 ∷ 30 ∷ 31 ∷ 30 ∷ 31 ∷ []

unfoldable pub days_of_month : ℕ → ℕ → ℕ
days_of_month y m = get_or (lengths (leap y)) (m - 1) 0

-- f 1 + .. + f n
unfoldable pub sum_to : (ℕ → ℕ) → ℕ → ℕ
sum_to f zero = 0
sum_to f (suc n) = sum_to f n + f (suc n)

unfoldable pub days_of_year : ℕ → ℕ
days_of_year y = sum_to (days_of_month y) 12

unfoldable pub days_before_year : ℕ → ℕ
days_before_year y = sum_to days_of_year (y - 1)

unfoldable pub days_before_month : ℕ → ℕ → ℕ
days_before_month y m = sum_to (days_of_month y) (m - 1)

-- ---- moments

abbrev pub Within : ℕ → ℕ → ℕ → Type 0
Within low high n = (low ≤ n) × (n ≤ high)

-- a moment of the years 1 to 9999
pub record Real (m : Moment) : Type 0 where
  pub year : Within 1 9999 m.year
  pub month : Within 1 12 m.month
  pub day : Within 1 (days_of_month m.year m.month) m.day
  pub hour : m.hour ≤ 23
  pub minute : m.minute ≤ 59
  pub second : m.second ≤ 59

-- the same as a test
abbrev pub is_within : ℕ → ℕ → ℕ → Bool
is_within low high n = leb low n and leb n high

unfoldable pub is_real : Moment → Bool
is_real m =
    is_within 1 9999 m.year and
    is_within 1 12 m.month and
    is_within 1 (days_of_month m.year m.month) m.day and
    leb m.hour 23 and
    leb m.minute 59 and
    leb m.second 59

-- the days from 0001-01-01 to a date
unfoldable pub days_of : ℕ → ℕ → ℕ → ℕ
days_of year month day = days_before_year year + days_before_month year month + (day - 1)

-- the seconds from 0001-01-01T00:00:00 to a moment
unfoldable pub seconds_of : Moment → ℕ
seconds_of m = ((days_of m.year m.month m.day * 24 + m.hour) * 60 + m.minute) * 60 + m.second

-- to 9999-12-31, and to 9999-12-31T23:59:59: `last-moment` says so
abbrev pub most_days : ℕ
most_days = 3652058

abbrev pub most_seconds : ℕ
most_seconds = 315537897599

-- ---- earlier: at the first of year, month, day, hour, minute, second in which two moments differ, the number is smaller

pub data Before : List ℕ → List ℕ → Type 0 where
  here : {a b : ℕ} {xs ys : List ℕ} → a < b → Before (a ∷ xs) (b ∷ ys)
  next : {a b : ℕ} {xs ys : List ℕ} → a ≡ b → Before xs ys → Before (a ∷ xs) (b ∷ ys)

abbrev pub fields : Moment → List ℕ
fields m = m.year ∷ m.month ∷ m.day ∷ m.hour ∷ m.minute ∷ m.second ∷ []

abbrev pub Earlier : Moment → Moment → Type 0
Earlier a b = Before (fields a) (fields b)

-- ---- the moment of a number of seconds

-- the most terms, of the first n, whose sum is at most d
unfoldable pub fitting : (ℕ → ℕ) → ℕ → ℕ → ℕ
fitting f zero d = 0
fitting f (suc n) d = elim (leb (sum_to f (suc n)) d) as (λ _. ℕ) [ true ↦ suc n | false ↦ fitting f n d ]

-- the year in which d days from 0001-01-01 are over, and the month of a year in which d days of the year are over
unfoldable pub year_of : ℕ → ℕ
year_of d = fitting days_of_year 9998 d + 1

unfoldable pub month_of : ℕ → ℕ → ℕ
month_of year d = fitting (days_of_month year) 11 d + 1

unfoldable pub moment_of : ℕ → Moment
moment_of n =
    let d = n / 86400 in
    let y = year_of d in
    let rest = d - days_before_year y in
    let m = month_of y rest in
    record {
      year = y;
      month = m;
      day = rest - days_before_month y m + 1;
      hour = n / 3600 % 24;
      minute = n / 60 % 60;
      second = n % 60;
    }
