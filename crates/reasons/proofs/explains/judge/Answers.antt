-- `reasons::explains::judge` meets its contract: accepted, the last, or again.
use borrow.Author.Tests.{le-leb, lt-leb}
use Rattle.steps.specs.Refusals.{is_last}
use Rattle.reasons.proofs.Numbers.{accepted, ended, again}
use Rattle.reasons.proofs.explains.judge.Goals as goal

pub returns-then-reason-eq0 : goal.returns-then-reason-eq0
returns-then-reason-eq0 c =
    let a = c.args in
    accepted a.s a.q a.differences c.first_over-reason.ensures c.requires.q_value c.if-reason-eq0.true

pub returns-then-s : goal.returns-then-s
unfolding is_last
returns-then-s c =
    let a = c.args in
    ended a.s a.q a.differences c.first_over-reason.ensures c.requires.q_value c.if-reason-eq0.false (le-leb _ _ c.if-s.true)

pub returns-else-s : goal.returns-else-s
unfolding is_last
returns-else-s c =
    let a = c.args in
    again a.s a.q a.differences c.first_over-reason.ensures c.requires.q_value c.if-reason-eq0.false (lt-leb _ _ c.if-s.false)
