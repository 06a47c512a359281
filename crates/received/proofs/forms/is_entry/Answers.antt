-- `received::forms::is_entry` meets its contract: the form's front, and its test of the rest.
use mathlib.Core.Path.{sym, ◌∙◌}
use borrow.Author.Rules.{rules}
use Rattle.received.specs.Slots.{form_of}
use Rattle.received.specs.Reading.{slot_at}
use Rattle.received.proofs.Fronts.{of-rest_of}
use Rattle.received.proofs.Dispatch.{front_same}
use Rattle.received.proofs.forms.is_entry.Goals as goal

pub returns : goal.returns
returns c =
    let a = c.args in
    of-rest_of (form_of (slot_at a.edition a.k)) (c.front_of.ensures ∙ sym (front_same a.edition a.k)) a.line.now (λ b. b.now) c.rest_of.result c.rest_of.ensures (search rules)
