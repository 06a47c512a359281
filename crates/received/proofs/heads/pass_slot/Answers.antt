-- `received::heads::pass_slot` meets its contract.
use mathlib.Core.Path.{sym, ◌∙◌, ap}
use Rattle.received.specs.Reading.{slot_at}
use Rattle.received.specs.Slots.{form_of}
use Rattle.received.proofs.Walks.{ends}
use Rattle.received.proofs.Dispatch.{is_one_lem, is_perhaps_lem, is_any_lem}
use Rattle.received.proofs.heads.pass_slot.Goals as goal

pub returns-in-One-clause-ends : goal.returns-in-One-clause-ends
returns-in-One-clause-ends c =
    let a = c.args in
    c.pass_one.ensures.ends
    ∙ ap (ends (form_of (slot_at a.edition a.k)) a.text.now a.from.at a.from.line) (is_one_lem (slot_at a.edition a.k) (sym (c.kind_of.ensures a.edition) ∙ c.in-One.is))

pub returns-in-Perhaps-clause-ends : goal.returns-in-Perhaps-clause-ends
returns-in-Perhaps-clause-ends c =
    let a = c.args in
    c.pass_perhaps.ensures.ends
    ∙ ap (ends (form_of (slot_at a.edition a.k)) a.text.now a.from.at a.from.line) (is_perhaps_lem a.edition a.k (sym (c.kind_of.ensures a.edition) ∙ c.in-Perhaps.is))

pub returns-in-Any-clause-ends : goal.returns-in-Any-clause-ends
returns-in-Any-clause-ends c =
    let a = c.args in
    c.pass_any.ensures.ends
    ∙ ap (ends (form_of (slot_at a.edition a.k)) a.text.now a.from.at a.from.line) (is_any_lem (slot_at a.edition a.k) (sym (c.kind_of.ensures a.edition) ∙ c.in-Any.is))
