-- `received::surveying::survey` meets its contract. The loop's invariant: what was kept and dropped up to a place.
use mathlib.Core.Path.{sym, ◌∙◌, subst}
use Prim.Native.Nat.{◌≤◌}
use native.Mathlib.Omega.{arith}
use Rattle.calendar.specs.Calendar.{most_seconds}
use Rattle.received.proofs.Surveys.{begun, over, dropping, keeping, first-here, first-before}
use Rattle.received.proofs.surveying.survey.Goals as goal
use Rattle.received.proofs.surveying.survey.Goals.{then-kept-eq0, else-kept-eq0}

pub loop-at-init : goal.loop-at-init
loop-at-init c = begun c.args.text.now c.args.from c.requires

pub loop-at-preserved-after-kept-eq0 : goal.loop-at-preserved-after-kept-eq0
loop-at-preserved-after-kept-eq0 c =
    let k = c.look-l.ensures in
    let l = c.loop-at.invariant in
    let a = c.args in
    elim c.if-kept-eq0.branch [
      | then-kept-eq0 w ↦ keeping a.text.now a.from l k c.if-l.true (w.first-is ∙ first-here a.text.now a.from l k c.if-l.true w.if-kept-eq0.true) (subst (λ f. f ≤ most_seconds) (sym w.first-is) k.early)
      | else-kept-eq0 w ↦ keeping a.text.now a.from l k c.if-l.true (w.first-is ∙ first-before a.text.now a.from l k w.if-kept-eq0.false) (subst (λ f. f ≤ most_seconds) (sym w.first-is) l.early)
    ]

pub loop-at-preserved : goal.loop-at-preserved
loop-at-preserved c =
    let a = c.args in
    dropping a.text.now a.from c.loop-at.invariant c.look-l.ensures c.if-l.false

pub returns : goal.returns
returns c =
    let l = c.loop-at.invariant in
    let a = c.args in
    (over a.text.now a.from l c.loop-at-test.false, omega (arith, l.room, l.within), l.early, l.late)
