-- `steps::corrects::correct_again` meets its contract: the last, or again.
use mathlib.Core.Path.{sym, ap}
use borrow.Author.Tests.{le-leb, lt-leb}
use Rattle.steps.specs.Answers.{reported_change}
use Rattle.steps.specs.Refusals.{largest_change, is_last}
use Rattle.steps.specs.Unagreed.{unagreed}
use Rattle.steps.proofs.Changes.{sizes-report, largest-within}
use Rattle.steps.proofs.corrects.correct_again.Goals as goal

pub returns-then-s-made : goal.returns-then-s-made
unfolding is_last
returns-then-s-made c =
    let a = c.args in
    rw c.settle.ensures (sym (ap (λ t. unagreed t a.s a.q a.point) (le-leb _ _ c.if-s-made.true)))

pub report_motion-change-requires : goal.report_motion-change-requires
report_motion-change-requires c =
    let a = c.args in
    let t = sizes-report (largest_change a.s a.q) (largest-within a.s a.q c.requires.waiting c.requires.placed_point) in
    rw c.largest_change.ensures record { whole_bound = t.0; whole_bound_2 = t.1 }

pub returns : goal.returns
unfolding is_last reported_change
returns c =
    let a = c.args in
    rw (c.await_at.ensures, c.report_motion-change.ensures, c.largest_change.ensures)
    (sym (ap (λ t. unagreed t a.s a.q a.point) (lt-leb _ _ c.if-s-made.false)))
