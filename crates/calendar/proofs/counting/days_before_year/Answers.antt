-- `calendar::counting::days_before_year` meets its contract.
use mathlib.Core.Path.{sym}
use Prim.Native.Nat.{◌-◌}
use Rattle.calendar.specs.Calendar.{days_before_year}
use Rattle.calendar.proofs.Years.{years-length}
use Rattle.calendar.proofs.counting.days_before_year.Goals as goal

pub returns : goal.returns
unfolding days_before_year
returns c = sym (years-length (c.args.year - 1))
