-- `stepper::open` meets its contract: the step's result, taken apart, and what its answer is in the paper's shape.
use Rattle.std.proofs.Common.{ap, ◌∙◌}
use Rattle.session.specs.Requests.{request}
use Rattle.steps.specs.Answers.{opening_answer, AfterOpen}
use Rattle.steps.proofs.Answers.{open-answers}
use Rattle.stepper.proofs.open.Goals as goal

pub returns : goal.returns
returns c =
    let e = c.open_step-r.ensures in (
      ap (λ (r : AfterOpen). r.session) e,
      ap (λ (r : AfterOpen). r.answer) e,
      ap (λ (r : AfterOpen). opening_answer r.answer) e ∙ open-answers (request c.args.points c.args.tolerances c.args.limit c.args.point c.args.samples.now),
    )
