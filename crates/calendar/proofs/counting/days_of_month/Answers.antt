-- `calendar::counting::days_of_month` meets its contract.
use Rattle.calendar.specs.Calendar.{lengths, days_of_month}
use Rattle.calendar.proofs.counting.days_of_month.Goals as goal

pub returns : goal.returns
unfolding days_of_month lengths
returns c = rw c.february.ensures
