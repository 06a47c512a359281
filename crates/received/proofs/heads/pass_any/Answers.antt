-- `received::heads::pass_any` meets its contract. The loop's invariant: every line so far is of the form.
use mathlib.Core.Path.{◌∙◌}
use Rattle.received.specs.Slots.{form_of}
use Rattle.received.specs.Reading.{slot_at}
use Rattle.received.proofs.Walks.{any-ends, any-next}
use Rattle.received.proofs.heads.pass_any.Goals as goal

pub loop-next-preserved : goal.loop-next-preserved
loop-next-preserved c =
    let a = c.args in
    let l = c.loop-next in
    (c.in-Ok.ensures.inside.0, any-next (form_of (slot_at a.edition a.k)) a.text.now l.spot.at l.spot.line c.in-Ok.next c.in-Ok.ensures.ends ∙ l.invariant.1)

pub returns-clause-ends : goal.returns-clause-ends
returns-clause-ends c =
    let a = c.args in
    let l = c.loop-next in
    any-ends (form_of (slot_at a.edition a.k)) a.text.now l.spot.at l.spot.line c.in_default.field-0 c.in_default.ensures.ends ∙ l.invariant.1
