-- `host::durungkilat_withdraw` meets its contract: 14 by the answer's length and by the image, and then the call on the record that the image holds.
use Rattle.std.proofs.Common.{ap, ◌∙◌}
use Rattle.steps.specs.Steps.{withdraw_of, withdraw_answer}
use Rattle.steps.specs.Answers.{withdrawal_answer}
use Rattle.steps.proofs.Answers.{withdraw-answers}
use Rattle.steps.proofs.Left.{withdraw-leaves}
use Rattle.image.specs.Reading.{held_in}
use Rattle.host.proofs.States.{left-standing}
use Rattle.host.proofs.Made.{held-standing, both, not-called, called}
use Rattle.host.proofs.durungkilat_withdraw.Goals as goal

pub returns-in_default : goal.returns-in_default
returns-in_default c =
    not-called c.args.image.now c.args.answer.now (λ s. (withdraw_of s).session) withdraw_answer c.in_default.ensures

pub withdraw_held-after-requires : goal.withdraw_held-after-requires
withdraw_held-after-requires c = rw (c.in-Some.ensures.1) (held-standing c.args.image.now)

pub leave-requires : goal.leave-requires
leave-requires c = both c.args.image.now c.args.answer.now c.in-Some.ensures.0

pub returns : goal.returns
returns c =
    let image = c.args.image.now in
    let (asked, held) = c.in-Some.ensures in
    let made = c.withdraw_held-after.ensures ∙ ap withdraw_of held in
    called image c.args.answer.now (λ s. (withdraw_of s).session) withdraw_answer asked
    (left-standing (held_in image) _ (held-standing image) (withdraw-leaves (held_in image)))
    (ap (λ x. x.session) made)
    (c.withdrawal_answer.ensures ∙ ap (λ x. withdrawal_answer x.answer) made ∙ withdraw-answers (held_in image))
    c.leave.ensures
