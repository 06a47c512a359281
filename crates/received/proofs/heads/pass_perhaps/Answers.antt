-- `received::heads::pass_perhaps` meets its contract.
use mathlib.Core.Path.{sym, ◌∙◌, ap}
use Rattle.std.specs.Prelude.{Ok}
use Rattle.received.specs.Slots.{form_of}
use Rattle.received.specs.Reading.{slot_at}
use Rattle.received.proofs.Walks.{not_there, if-there}
use Rattle.received.proofs.heads.pass_perhaps.Goals as goal

pub returns-then-has_more-clause-ends : goal.returns-then-has_more-clause-ends
returns-then-has_more-clause-ends c =
    let a = c.args in
    ap Ok c.unwrap_or.ensures
    ∙ if-there (form_of (slot_at a.edition a.k)) a.text.now a.from.at a.from.line (sym c.has_more.ensures ∙ c.if-has_more.true) c.pass_one.ensures.ends

pub returns-else-has_more-clause-ends : goal.returns-else-has_more-clause-ends
returns-else-has_more-clause-ends c =
    let a = c.args in
    not_there (form_of (slot_at a.edition a.k)) a.text.now a.from.at a.from.line (sym c.has_more.ensures ∙ c.if-has_more.false)
