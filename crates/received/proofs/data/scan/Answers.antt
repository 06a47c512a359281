-- `received::data::scan` meets its contract. The loop's invariant: the lines so far were accepted.
use mathlib.Core.Path.{sym, ◌∙◌, ap}
use native.Mathlib.Omega.{arith}
use Rattle.received.specs.Data.{datum_in, accepts}
use Rattle.received.proofs.Cuts.{between}
use Rattle.received.proofs.Scans.{begun, all-over, none-over, stops, goes_on, first-here, first-before}
use Rattle.received.proofs.data.scan.Goals as goal
use Rattle.received.proofs.data.scan.Goals.{then-count-eq0, else-count-eq0}

pub returns-in_default-clause-value : goal.returns-in_default-clause-value
returns-in_default-clause-value c =
    let text = c.args.text.now in
    stops text c.args.from c.loop-at.invariant c.loop-at-test.true
    (ap (λ end. accepts c.loop-at.earliest (datum_in (between text c.loop-at.at end))) (sym c.past_line-end.ensures.value) ∙ c.in_default.ensures)

pub loop-at-preserved : goal.loop-at-preserved
loop-at-preserved c =
    let text = c.args.text.now in
    let from = c.args.from in
    let h = c.loop-at-test.true in
    let past = c.past_line-end.ensures.value in
    let (a, d) = c.in-Some.ensures in
    let secs = d.seconds-are ∙ ap (λ end. (datum_in (between text c.loop-at.at end)).seconds) past in
    let t = c.loop-at.invariant in
    goes_on text from t h
    (ap (λ end. accepts c.loop-at.earliest (datum_in (between text c.loop-at.at end))) (sym past) ∙ a)
    past
    secs
    d.in_time
    (elim c.if-count-eq0.branch [
      | then-count-eq0 w ↦ w.first-is ∙ secs ∙ first-here text from t h w.if-count-eq0.true
      | else-count-eq0 w ↦ w.first-is ∙ first-before text from t h w.if-count-eq0.false
    ])
    (elim c.if-count-eq0.branch [
      | then-count-eq0 w ↦ omega (arith, w.first-is, d.in_time)
      | else-count-eq0 w ↦ omega (arith, w.first-is, t.early)
    ])

pub returns-clause-value : goal.returns-clause-value
returns-clause-value c = all-over c.args.text.now c.args.from c.loop-at.invariant c.loop-at-test.false c.if-count-eq0-2.false

pub returns-then-count-eq0-2-clause-value : goal.returns-then-count-eq0-2-clause-value
returns-then-count-eq0-2-clause-value c = none-over c.args.text.now c.args.from c.loop-at.invariant c.loop-at-test.false c.if-count-eq0-2.true

pub loop-at-init : goal.loop-at-init
loop-at-init c = begun _ _ c.requires
