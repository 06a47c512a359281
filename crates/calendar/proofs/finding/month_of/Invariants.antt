-- `calendar::finding::month_of` meets its contract. The loop's invariant: the months before this one are over.
use mathlib.Core.Path.{◌≡◌}
use Prim.Native.Nat.{◌≤◌}
use Rattle.calendar.specs.Calendar.{days_before_month}
use Rattle.calendar.proofs.finding.month_of.Given as goal

abbrev pub invariant-loop-month : goal.invariant-loop-month
invariant-loop-month l = (l.end ≡ days_before_month l.year l.month) × (l.end ≤ l.d)
