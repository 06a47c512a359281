-- `running::runs::correct_on` meets its contract: by what the correction answers.
use mathlib.Core.Path.{◌≡◌, sym, ap, ◌∙◌}
use Rattle.ticks.specs.declared.Sample.{Sample}
use Rattle.session.specs.declared.Session.{Session}
use Rattle.steps.specs.declared.Correction.{Correction}
use Rattle.steps.specs.Answers.{AfterCorrect}
use Rattle.steps.specs.Steps.{correct_of}
use Rattle.running.specs.declared.RunAnswer.{RunAnswer}
use Rattle.running.specs.Runs.{corrected, correcting}
use Rattle.running.proofs.runs.correct_on.Goals as goal

-- what was answered, told apart
told : (r : RunAnswer) (s : Session) (a : Sample) (after : AfterCorrect) (c : Correction) → after ≡ correct_of s a → after.answer ≡ c →
    corrected r after.session c ≡ correcting r s a
told r s a after c e f = sym (ap (corrected r after.session) f) ∙ ap (λ x. corrected r x.session x.answer) e

pub returns-in-Accepted : goal.returns-in-Accepted
returns-in-Accepted c =
    let k = c.correct_awaiting-after in
    let a = c.args in
    c.come_to.ensures ∙ told a.r a.s a.a k.result _ k.ensures c.in-Accepted.is

pub returns-in-Again : goal.returns-in-Again
returns-in-Again c =
    let k = c.correct_awaiting-after in
    let a = c.args in
    c.come_to-in-Again.ensures ∙ told a.r a.s a.a k.result _ k.ensures c.in-Again.is

pub returns-in-Refused : goal.returns-in-Refused
returns-in-Refused c =
    let k = c.correct_awaiting-after in
    let a = c.args in
    c.come_to-in-Refused.ensures ∙ told a.r a.s a.a k.result _ k.ensures c.in-Refused.is
