-- `calendar::finding::moment_of` meets its contract.
use mathlib.Core.Path.{◌≡◌, ap}
use Prim.Native.Nat.{ℕ, ◌+◌, ◌-◌, ◌/◌, ◌%◌, ◌≤◌, ◌<◌}
use native.Mathlib.Omega.{arith}
use Rattle.calendar.specs.declared.Moment.{Moment}
use Rattle.calendar.specs.Calendar.{days_of_year, days_before_year, days_before_month, Within, most_days, year_of, month_of, moment_of}
use Rattle.calendar.proofs.Moments.{year-found, month-found}
use Rattle.calendar.proofs.finding.moment_of.Goals as goal

-- the year found, and the days before it
module _ (d y b : ℕ) (most : d ≤ most_days) (year : y ≡ year_of d) (before : b ≡ days_before_year y) where
  over : b ≤ d
  over = omega (arith, (year-found d most).before, ap days_before_year year)

  in-year : d - b < days_of_year y
  in-year = let f = year-found d most in omega (arith, f.before, f.rest, ap days_before_year year, ap days_of_year year)

  module _ (m : ℕ) (month : m ≡ month_of y (d - b)) where
    in-range : Within 1 12 m
    in-range = omega (arith, (month-found y (d - b) in-year).month)

    months-over : days_before_month y m ≤ d - b
    months-over = omega (arith, (month-found y (d - b) in-year).before, ap (days_before_month y) month)

is-moment : (n y b m k : ℕ) → y ≡ year_of (n / 86400) → b ≡ days_before_year y → m ≡ month_of y (n / 86400 - b) → k ≡ days_before_month y m
    → ◌≡◌ {A = Moment}
    (record { year = y; month = m; day = n / 86400 - b - k + 1; hour = n / 3600 % 24; minute = n / 60 % 60; second = n % 60 }) (moment_of n)
unfolding moment_of
is-moment n y b m k year before month months = cc

pub days_before_year-requires : goal.days_before_year-requires
days_before_year-requires c = omega (arith, c.year_of-year.ensures, (year-found (c.args.n / 86400) (omega arith)).year)

pub overflow_sub-rest : goal.overflow_sub-rest
overflow_sub-rest c = over _ _ _ (omega arith) c.year_of-year.ensures c.days_before_year.ensures

pub days_before_month-requires : goal.days_before_month-requires
days_before_month-requires c =
    in-range _ _ _ (omega arith) c.year_of-year.ensures c.days_before_year.ensures _ c.month_of-month.ensures

pub overflow_sub-day : goal.overflow_sub-day
overflow_sub-day c =
    let o = months-over _ _ _ (omega arith) c.year_of-year.ensures c.days_before_year.ensures _ c.month_of-month.ensures in
    omega (arith, c.days_before_month.ensures)

pub returns : goal.returns
returns c =
    is-moment c.args.n _ _ _ _
    c.year_of-year.ensures
    c.days_before_year.ensures
    c.month_of-month.ensures
    c.days_before_month.ensures
