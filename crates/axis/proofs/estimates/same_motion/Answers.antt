-- `axis::estimates::same_motion` meets its contract: the derived equality compares both kinds.
use Rattle.std.proofs.Common.{ap₂, ◌∙◌, ◌&&◌}
use Rattle.exact.proofs.Order.{same-exact}
use Rattle.axis.specs.Estimates.{same_motion}
use Rattle.axis.proofs.estimates.same_motion.Goals as goal

pub returns : goal.returns
unfolding same_motion
returns c =
    let a = c.args.a in
    let b = c.args.b in
    c.eq.ensures ∙ ap₂ (λ s t. s && t) (same-exact a.position b.position) (same-exact a.velocity b.velocity)
