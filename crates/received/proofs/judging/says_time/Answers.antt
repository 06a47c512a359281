-- `received::judging::says_time` meets its contract.
use mathlib.Core.Path.{◌∙◌, ap}
use Rattle.calendar.specs.Text.{same_text}
use Rattle.message.specs.Message.{time_after}
use Rattle.received.proofs.Reached.{value-is}
use Rattle.received.proofs.judging.says_time.Goals as goal

pub returns : goal.returns
returns c =
    let a = c.args in
    c.is_time_of.ensures
    ∙ ap (λ v. same_text v (time_after a.seconds)) (value-is a.edition a.text.now c.requires.through a.k c.requires.k_bound.0 c.requires.k_bound.1 c.place_of-place.ensures.0)
