-- `host::held::predict_held` meets its contract: by the state.
use Rattle.std.specs.Prelude.{Err}
use Rattle.std.proofs.Common.{◌∙◌}
use Rattle.rules.proofs.Tests.{hit-not}
use Rattle.steps.proofs.Results.{predict-gives}
use Rattle.host.proofs.States.{other-than-settled, settled-held}
use Rattle.host.proofs.held.predict_held.Goals as goal

pub predict_settled-requires : goal.predict_settled-requires
predict_settled-requires c = settled-held c.args.s c.requires c.in-Settled.is

pub returns-in_default : goal.returns-in_default
returns-in_default c =
    let s = c.args.s in
    (λ i. record { session = s; answer = Err (c.into.ensures i) }) ∙ predict-gives s (hit-not (other-than-settled s c.in_default.not-Settled))
