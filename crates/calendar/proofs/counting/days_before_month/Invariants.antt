-- `calendar::counting::days_before_month` meets its contract. The loop's invariant: the days of the months before k are counted.
use mathlib.Core.Path.{◌≡◌}
use Rattle.calendar.specs.Calendar.{days_before_month}
use Rattle.calendar.proofs.counting.days_before_month.Given as goal

abbrev pub invariant-loop-k : goal.invariant-loop-k
invariant-loop-k l = l.days ≡ days_before_month l.year l.k
