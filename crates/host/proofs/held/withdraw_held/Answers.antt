-- `host::held::withdraw_held` meets its contract: by the state.
use Rattle.std.specs.Prelude.{Err}
use Rattle.std.proofs.Common.{◌∙◌}
use Rattle.rules.proofs.Tests.{hit-not}
use Rattle.steps.proofs.Results.{withdraw-gives}
use Rattle.host.proofs.States.{other-than-awaiting, awaiting-held}
use Rattle.host.proofs.held.withdraw_held.Goals as goal

pub withdraw_awaiting-requires : goal.withdraw_awaiting-requires
withdraw_awaiting-requires c = awaiting-held c.args.s c.requires c.in-Awaiting.is

pub returns-in_default : goal.returns-in_default
returns-in_default c =
    let s = c.args.s in
    (λ i. record { session = s; answer = Err (c.into.ensures i) }) ∙ withdraw-gives s (hit-not (other-than-awaiting s c.in_default.not-Awaiting))
