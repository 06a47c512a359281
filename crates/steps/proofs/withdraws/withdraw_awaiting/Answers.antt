-- `steps::withdraws::withdraw_awaiting` meets its contract: settled again.
use mathlib.Core.Path.{ap, ◌∙◌}
use Rattle.std.specs.Prelude.{Ok}
use Rattle.rules.proofs.Tests.{past-not, none-given}
use Rattle.steps.proofs.Results.{withdraw-gives}
use Rattle.steps.proofs.withdraws.withdraw_awaiting.Goals as goal

pub returns : goal.returns
returns c = ap (λ t. record { session = t; answer = Ok tt }) c.settle.ensures ∙ withdraw-gives c.args.s (past-not c.requires none-given)
