-- `stepper::predict` meets its contract: the step's result, taken apart, and what its answer is in the paper's shape.
use Rattle.std.proofs.Common.{ap, ◌∙◌}
use Rattle.steps.specs.Answers.{prediction_answer, AfterPredict}
use Rattle.steps.proofs.Answers.{predict-answers}
use Rattle.stepper.proofs.predict.Goals as goal

pub returns : goal.returns
returns c =
    let e = c.predict_step-r.ensures in (
      ap (λ (r : AfterPredict). r.session) e,
      ap (λ (r : AfterPredict). r.answer) e,
      ap (λ (r : AfterPredict). prediction_answer r.answer) e ∙ predict-answers c.args.s.now,
    )
