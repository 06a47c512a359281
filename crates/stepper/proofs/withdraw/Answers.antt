-- `stepper::withdraw` meets its contract: the step's result, taken apart, and what its answer is in the paper's shape.
use Rattle.std.proofs.Common.{ap, ◌∙◌}
use Rattle.steps.specs.Answers.{withdrawal_answer, AfterWithdraw}
use Rattle.steps.proofs.Answers.{withdraw-answers}
use Rattle.stepper.proofs.withdraw.Goals as goal

pub returns : goal.returns
returns c =
    let e = c.withdraw_step-r.ensures in (
      ap (λ (r : AfterWithdraw). r.session) e,
      ap (λ (r : AfterWithdraw). r.answer) e,
      ap (λ (r : AfterWithdraw). withdrawal_answer r.answer) e ∙ withdraw-answers c.args.s.now,
    )
