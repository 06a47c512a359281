-- `calendar::counting::is_leap` meets its contract.
use borrow.Author.Tests.{eq-eqb, ne_eqb}
use Rattle.calendar.specs.Calendar.{leap}
use Rattle.calendar.proofs.counting.is_leap.Goals as goal

pub returns-then-year-eq0 : goal.returns-then-year-eq0
unfolding leap
returns-then-year-eq0 c = rw (eq-eqb _ 0 c.if-year-eq0.true)

pub returns-else-year-eq0 : goal.returns-else-year-eq0
unfolding leap
returns-else-year-eq0 c = rw (ne_eqb _ 0 c.if-year-eq0.false)
