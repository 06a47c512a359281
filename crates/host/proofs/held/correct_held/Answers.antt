-- `host::held::correct_held` meets its contract: by the state.
use Rattle.rules.proofs.Tests.{hit-not}
use Rattle.steps.proofs.Results.{correct-gives}
use Rattle.host.proofs.States.{other-than-awaiting, awaiting-held}
use Rattle.host.proofs.held.correct_held.Goals as goal

pub correct_awaiting-requires : goal.correct_awaiting-requires
correct_awaiting-requires c = awaiting-held c.args.s c.requires c.in-Awaiting.is

pub returns-in_default : goal.returns-in_default
returns-in_default c = let s = c.args.s in correct-gives s c.args.a (hit-not (other-than-awaiting s c.in_default.not-Awaiting))
