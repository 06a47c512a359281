-- Each number of seconds up to `most_seconds` is that of one real moment, which `moment_of` finds.
use Rattle.std.specs.Prelude.{◌≡◌, true, ℕ, suc, ◌+◌, ◌-◌, ◌*◌, ◌/◌, ◌%◌, ◌≤◌, ◌<◌}
use Rattle.std.proofs.Common.{ap, ◌∙◌, arith, leb-true, le-leb}
use Rattle.integers.specs.Tests.{joined}
use Rattle.calendar.specs.declared.Moment.{Moment}
use Rattle.calendar.specs.Calendar.{leap, lengths, days_of_month, sum_to, days_of_year, days_before_year, days_before_month, Within, Real, is_real}
use Rattle.calendar.specs.Calendar.{days_of, seconds_of, most_days, most_seconds, fitting, year_of, month_of, moment_of}
use Rattle.calendar.proofs.Sums.{one_more, fitting-most, fitting-low, fitting-high}
use Rattle.calendar.proofs.Years.{years-length}
use Rattle.calendar.proofs.Order.{by-year, one-to-one}

-- ---- the test of a moment

pub tested_real : (m : Moment) → is_real m ≡ true → Real m
unfolding is_real
tested_real m h =
    let ((a, b), ((c, d), ((e, f), (g, (i, j))))) = simp joined at h in
    record {
      year = (leb-true 1 m.year a, leb-true m.year 9999 b);
      month = (leb-true 1 m.month c, leb-true m.month 12 d);
      day = (leb-true 1 m.day e, leb-true m.day (days_of_month m.year m.month) f);
      hour = leb-true m.hour 23 g;
      minute = leb-true m.minute 59 i;
      second = leb-true m.second 59 j;
    }

pub real-tested : (m : Moment) → Real m → is_real m ≡ true
unfolding is_real
real-tested m r =
    simp joined (
      (le-leb 1 m.year r.year.0, le-leb m.year 9999 r.year.1),
      (
        (le-leb 1 m.month r.month.0, le-leb m.month 12 r.month.1),
        (
          (le-leb 1 m.day r.day.0, le-leb m.day (days_of_month m.year m.month) r.day.1),
          (le-leb m.hour 23 r.hour, (le-leb m.minute 59 r.minute, le-leb m.second 59 r.second)),
        ),
      ),
    )

-- ---- every number of seconds

all-days : sum_to days_of_year 9999 ≡ 3652059
all-days = years-length 9999

pub days-most : {m : Moment} → Real m → days_of m.year m.month m.day ≤ most_days
days-most {m} r = omega (arith, all-days, by-year m.year m.month m.day r.month r.day 9999 r.year.0 r.year.1)

pub at_most : {m : Moment} → Real m → seconds_of m ≤ most_seconds
unfolding seconds_of
at_most {m} r = omega (arith, days-most r)

pub last-moment : seconds_of (record { year = 9999; month = 12; day = 31; hour = 23; minute = 59; second = 59 }) ≡ most_seconds
unfolding seconds_of days_of days_before_year days_before_month days_of_month lengths leap sum_to
last-moment = rw (years-length 9998)

-- the year in which d days are over
pub record YearFound (d : ℕ) : Type 0 where
  pub year : Within 1 9999 (year_of d)
  pub before : days_before_year (year_of d) ≤ d
  pub rest : d - days_before_year (year_of d) < days_of_year (year_of d)

pub year-found : (d : ℕ) → d ≤ most_days → YearFound d
unfolding year_of days_before_year
year-found d h =
    let k = fitting days_of_year 9998 d in
    let low = fitting-low days_of_year 9998 d in
    let high = fitting-high days_of_year 9998 d (omega (arith, all-days)) in
    let e : k + 1 - 1 ≡ k = omega arith in
    let f : suc k ≡ k + 1 = omega arith in
    record {
      year = omega (arith, fitting-most days_of_year 9998 d);
      before = rw e low;
      rest = rw e (omega (arith, low, high, one_more days_of_year k, ap days_of_year f));
    }

-- the month of a year in which d of its days are over
pub record MonthFound (y d : ℕ) : Type 0 where
  pub month : Within 1 12 (month_of y d)
  pub before : days_before_month y (month_of y d) ≤ d
  pub rest : d - days_before_month y (month_of y d) < days_of_month y (month_of y d)

pub month-found : (y d : ℕ) → d < days_of_year y → MonthFound y d
unfolding month_of days_before_month days_of_year
month-found y d h =
    let k = fitting (days_of_month y) 11 d in
    let low = fitting-low (days_of_month y) 11 d in
    let high = fitting-high (days_of_month y) 11 d h in
    let e : k + 1 - 1 ≡ k = omega arith in
    let f : suc k ≡ k + 1 = omega arith in
    record {
      month = omega (arith, fitting-most (days_of_month y) 11 d);
      before = rw e low;
      rest = rw e (omega (arith, low, high, one_more (days_of_month y) k, ap (days_of_month y) f));
    }

-- the moment of a number of seconds is real
pub moment-real : (n : ℕ) → n ≤ most_seconds → Real (moment_of n)
unfolding moment_of
moment-real n h =
    let y = year-found (n / 86400) (omega arith) in
    let m = month-found (year_of (n / 86400)) (n / 86400 - days_before_year (year_of (n / 86400))) y.rest in
    record {
      year = y.year;
      month = m.month;
      day = omega (arith, m.rest);
      hour = omega arith;
      minute = omega arith;
      second = omega arith;
    }

-- the days, hours, minutes and seconds of a number of seconds
clock : (n : ℕ) → ((n / 86400 * 24 + n / 3600 % 24) * 60 + n / 60 % 60) * 60 + n % 60 ≡ n
clock n = omega arith

-- and has that number of seconds
pub moment-seconds : (n : ℕ) → n ≤ most_seconds → seconds_of (moment_of n) ≡ n
unfolding moment_of seconds_of days_of
moment-seconds n h =
    let y = year-found (n / 86400) (omega arith) in
    let m = month-found (year_of (n / 86400)) (n / 86400 - days_before_year (year_of (n / 86400))) y.rest in
    let d : days_of (moment_of n).year (moment_of n).month (moment_of n).day ≡ n / 86400 = omega (arith, y.before, m.before) in
    ap (λ k. ((k * 24 + n / 3600 % 24) * 60 + n / 60 % 60) * 60 + n % 60) d ∙ clock n

-- a real moment is found again from its seconds
pub moment-again : (m : Moment) → Real m → moment_of (seconds_of m) ≡ m
moment-again m r = one-to-one (moment_of (seconds_of m)) m (moment-real (seconds_of m) (at_most r)) r (moment-seconds (seconds_of m) (at_most r))
