-- `calendar::finding::year_of` meets its contract.
use mathlib.Core.Path.{◌≡◌, refl, sym, ◌∙◌, ap}
use Prim.Native.Nat.{ℕ, ◌+◌, ◌*◌, ◌/◌, ◌≤◌, ◌<◌}
use native.Mathlib.Omega.{arith}
use Rattle.calendar.specs.Calendar.{days_before_year, most_days, year_of}
use Rattle.calendar.proofs.Years.{mean-low, mean-high, year-is}
use Rattle.calendar.proofs.finding.year_of.Goals as goal

module _ (d e : ℕ) (most : d ≤ most_days) (share : e ≡ d * 400 / 146097) where
  -- the year after the one found is over, or it is not
  over : days_before_year (e + 2) ≤ d → e + 2 ≡ year_of d
  over h =
      let n : e + 1 + 1 ≡ e + 2 = omega arith in
      let l : e + 2 + 1 ≡ e + 1 + 2 = omega arith in
      let low = rw n at (mean-low (e + 1)) in
      sym n ∙ year-is d (e + 1) (omega arith) (rw n h) (omega (arith, mean-low (e + 2), ap days_before_year l))

  not-over : d < days_before_year (e + 2) → e + 1 ≡ year_of d
  not-over h = year-is d e (omega arith) (omega (arith, mean-high e)) h

pub returns-then-days_before_year-d : goal.returns-then-days_before_year-d
returns-then-days_before_year-d c =
    over c.args.d (c.args.d * 400 / 146097) c.requires refl (omega (arith, c.days_before_year.ensures, c.if-days_before_year-d.true))

pub returns-else-days_before_year-d : goal.returns-else-days_before_year-d
returns-else-days_before_year-d c =
    not-over c.args.d (c.args.d * 400 / 146097) c.requires refl (omega (arith, c.days_before_year.ensures, c.if-days_before_year-d.false))
