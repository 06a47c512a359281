-- `stepper::start` meets its contract: the step's result, taken apart, and what its answer is in the paper's shape.
use Rattle.std.proofs.Common.{ap, ◌∙◌}
use Rattle.session.specs.Requests.{request}
use Rattle.epoch_steps.specs.Answers.{round_answer, AfterRound}
use Rattle.epoch_steps.proofs.Answered.{start-answers}
use Rattle.stepper.proofs.start.Goals as goal

pub returns : goal.returns
returns c =
    let e = c.start_step-r.ensures in (
      ap (λ (r : AfterRound). r.session) e,
      ap (λ (r : AfterRound). r.answer) e,
      ap (λ (r : AfterRound). round_answer r.answer) e ∙ start-answers (request c.args.points c.args.tolerances c.args.limit c.args.epoch c.args.samples.now),
    )
