-- `host::durungkilat_correct` meets its contract: 14 by the answer's length and by the image, and then the call on the record that the image holds.
use Rattle.std.proofs.Common.{ap, ◌∙◌}
use Rattle.ticks.specs.declared.Sample.{Sample}
use Rattle.steps.specs.Steps.{correct_of, correct_answer}
use Rattle.steps.specs.Answers.{correction_answer}
use Rattle.steps.proofs.Answers.{correct-answers}
use Rattle.steps.proofs.Left.{correct-leaves}
use Rattle.image.specs.Reading.{held_in}
use Rattle.host.proofs.States.{left-standing}
use Rattle.host.proofs.Made.{held-standing, both, not-called, called}
use Rattle.host.proofs.durungkilat_correct.Goals as goal

pub returns-in_default : goal.returns-in_default
returns-in_default c =
    let a : Sample = record { x = c.args.x; y = c.args.y; z = c.args.z } in
    not-called c.args.image.now c.args.answer.now (λ s. (correct_of s a).session) (λ s. correct_answer s a) c.in_default.ensures

pub correct_held-after-requires : goal.correct_held-after-requires
correct_held-after-requires c = rw (c.in-Some.ensures.1) (held-standing c.args.image.now)

pub leave-requires : goal.leave-requires
leave-requires c = both c.args.image.now c.args.answer.now c.in-Some.ensures.0

pub returns : goal.returns
returns c =
    let a : Sample = record { x = c.args.x; y = c.args.y; z = c.args.z } in
    let image = c.args.image.now in
    let (asked, held) = c.in-Some.ensures in
    let made = c.correct_held-after.ensures ∙ ap (λ s. correct_of s a) held in
    called image c.args.answer.now (λ s. (correct_of s a).session) (λ s. correct_answer s a) asked
    (left-standing (held_in image) _ (held-standing image) (correct-leaves (held_in image) a))
    (ap (λ x. x.session) made)
    (c.correction_answer.ensures ∙ ap (λ x. correction_answer x.answer) made ∙ correct-answers (held_in image) a)
    c.leave.ensures
