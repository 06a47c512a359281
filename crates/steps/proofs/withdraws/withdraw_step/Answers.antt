-- `steps::withdraws::withdraw_step` meets its contract: refused by 7, or settled again.
use mathlib.Core.Path.{sym, ap, ◌∙◌}
use Rattle.std.specs.Prelude.{Err}
use Rattle.rules.proofs.Tests.{hit-not}
use Rattle.steps.proofs.Results.{withdraw-gives}
use Rattle.steps.proofs.withdraws.withdraw_step.Goals as goal

pub returns-then-not-is_awaiting : goal.returns-then-not-is_awaiting
returns-then-not-is_awaiting c =
    ap (λ n. record { session = c.args.s; answer = Err n }) c.into.ensures ∙ withdraw-gives c.args.s (hit-not (sym c.is_awaiting.ensures ∙ c.if-not-is_awaiting.true))
