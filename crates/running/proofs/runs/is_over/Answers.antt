-- `running::runs::is_over` meets its contract: refused, or it has the points.
use mathlib.Core.Path.{refl}
use borrow.Author.Tests.{eq-eqb, ne_eqb}
use Rattle.running.specs.Runs.{over}
use Rattle.running.proofs.runs.is_over.Goals as goal

pub returns-then-r-ne0 : goal.returns-then-r-ne0
unfolding over
returns-then-r-ne0 c =
    let a = c.args in
    rw (ne_eqb a.r.number 0 c.if-r-ne0.true) refl

pub returns-else-r-ne0 : goal.returns-else-r-ne0
unfolding over
returns-else-r-ne0 c =
    let a = c.args in
    rw (eq-eqb a.r.number 0 c.if-r-ne0.false) refl
