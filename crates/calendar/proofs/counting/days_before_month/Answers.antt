-- `calendar::counting::days_before_month` meets its contract. The loop's invariant: the days of the months before k are counted.
use mathlib.Core.Path.{◌≡◌, refl, ◌∙◌, ap}
use native.Mathlib.Omega.{arith}
use Rattle.calendar.specs.Calendar.{sum_to, days_before_month}
use Rattle.calendar.proofs.Years.{month-most, months-most, next-month}
use Rattle.calendar.proofs.counting.days_before_month.Goals as goal

pub loop-k-init : goal.loop-k-init
unfolding days_before_month sum_to
loop-k-init c = refl

pub overflow_add-days : goal.overflow_add-days
overflow_add-days c =
    let y = c.args.year in
    let k = c.loop-k.k in
    omega (arith, months-most y k, month-most y k)

pub loop-k-preserved : goal.loop-k-preserved
loop-k-preserved c = omega (arith, next-month c.args.year c.loop-k.k c.loop-k.auto.k)

pub returns : goal.returns
returns c =
    let e : c.loop-k.k ≡ c.args.month = omega arith in
    c.loop-k.invariant ∙ ap (days_before_month c.args.year) e
