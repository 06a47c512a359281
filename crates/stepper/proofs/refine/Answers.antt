-- `stepper::refine` meets its contract: the step's result, taken apart, and what its answer is in the paper's shape.
use Rattle.std.proofs.Common.{ap, ◌∙◌}
use Rattle.epoch_steps.specs.Answers.{round_answer, AfterRound}
use Rattle.epoch_steps.proofs.Answered.{refine-answers}
use Rattle.stepper.proofs.refine.Goals as goal

pub returns : goal.returns
returns c =
    let e = c.refine_step-r.ensures in (
      ap (λ (r : AfterRound). r.session) e,
      ap (λ (r : AfterRound). r.answer) e,
      ap (λ (r : AfterRound). round_answer r.answer) e ∙ refine-answers c.args.s.now c.args.samples.now,
    )
