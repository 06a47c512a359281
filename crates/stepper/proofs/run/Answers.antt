-- `stepper::run` meets its contract: the step's result, taken apart, and the allowance that every run keeps to.
use Rattle.std.proofs.Common.{ap, sym, subst}
use Rattle.running.specs.Bound.{WithinAllowance}
use Rattle.running.proofs.Bound.{within-allowance}
use Rattle.stepper.proofs.run.Goals as goal
use Rattle.running.specs.Runs.{AfterRun}

pub returns : goal.returns
returns c =
    let e = c.run_step-r.ensures in (
      ap (λ (r : AfterRun). r.session) e,
      ap (λ (r : AfterRun). r.answer) e,
      subst (λ (r : AfterRun). WithinAllowance c.args.s.now.limit r.answer) (sym e) (within-allowance c.args.s.now c.args.samples.now c.args.wanted),
    )
