-- `stepper::correct` meets its contract: the step's result, taken apart, and what its answer is in the paper's shape.
use Rattle.std.proofs.Common.{ap, ◌∙◌}
use Rattle.steps.specs.Answers.{correction_answer, AfterCorrect}
use Rattle.steps.proofs.Answers.{correct-answers}
use Rattle.stepper.proofs.correct.Goals as goal

pub returns : goal.returns
returns c =
    let e = c.correct_step-r.ensures in (
      ap (λ (r : AfterCorrect). r.session) e,
      ap (λ (r : AfterCorrect). r.answer) e,
      ap (λ (r : AfterCorrect). correction_answer r.answer) e ∙ correct-answers c.args.s.now c.args.a,
    )
