-- `running::runs::run_step` meets its contract: refused by 7 or by 2, or a settled session's run.
use mathlib.Core.Path.{sym, ◌∙◌}
use borrow.Author.Tests.{eq-eqb, ne_eqb}
use Rattle.rules.proofs.Tests.{hit-not, past-not, none-given}
use Rattle.running.proofs.On.{run-gives}
use Rattle.running.proofs.runs.run_step.Goals as goal

pub returns-then-not-is_settled : goal.returns-then-not-is_settled
returns-then-not-is_settled c =
    let a = c.args in
    c.come_to.ensures ∙ run-gives a.s a.samples.now a.wanted (hit-not (sym c.is_settled.ensures ∙ c.if-not-is_settled.true))

pub returns-then-samples-ne0 : goal.returns-then-samples-ne0
returns-then-samples-ne0 c =
    let a = c.args in
    c.come_to-then-samples-ne0.ensures
    ∙ run-gives a.s a.samples.now a.wanted (past-not (sym c.is_settled.ensures ∙ c.if-not-is_settled.false) (hit-not (ne_eqb _ _ c.if-samples-ne0.true)))

pub returns : goal.returns
returns c =
    let a = c.args in
    c.run_settled.ensures
    ∙ run-gives a.s a.samples.now a.wanted (past-not (sym c.is_settled.ensures ∙ c.if-not-is_settled.false) (past-not (eq-eqb _ _ c.if-samples-ne0.false) none-given))
