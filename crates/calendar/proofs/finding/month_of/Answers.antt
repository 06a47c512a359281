-- `calendar::finding::month_of` meets its contract. The loop's invariant: the months before this one are over.
use mathlib.Core.Path.{◌≡◌, refl, ap}
use native.Mathlib.Omega.{arith}
use Rattle.calendar.specs.Calendar.{sum_to, days_before_month}
use Rattle.calendar.proofs.Years.{month-most, months-most, next-month, month-is, month-last}
use Rattle.calendar.proofs.finding.month_of.Goals as goal

pub loop-month-init : goal.loop-month-init
unfolding days_before_month sum_to
loop-month-init c = (refl, omega arith)

pub overflow_add-end : goal.overflow_add-end
overflow_add-end c =
    omega (arith, months-most c.args.year c.loop-month.month, month-most c.args.year c.loop-month.month)

pub returns-then-d-end : goal.returns-then-d-end
returns-then-d-end c =
    let y = c.args.year in
    let m = c.loop-month.month in
    month-is y c.args.d m c.loop-month.auto.month c.loop-month-test.true (omega arith)
    (omega (arith, next-month y m c.loop-month.auto.month))

pub loop-month-preserved : goal.loop-month-preserved
loop-month-preserved c = (omega (arith, next-month c.args.year c.loop-month.month c.loop-month.auto.month), omega arith)

pub returns : goal.returns
returns c =
    let y = c.args.year in
    let e : c.loop-month.month ≡ 12 = omega arith in
    month-last y c.args.d (omega (arith, ap (days_before_month y) e))
