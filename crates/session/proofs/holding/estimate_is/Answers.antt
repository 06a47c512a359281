-- `session::holding::estimate_is` meets its contract: the derived equality compares the six values.
use Rattle.std.proofs.Common.{◌≡◌, sym, ap, ap₂, ◌∙◌, Bool, ◌&&◌}
use Rattle.std.proofs.Math.Dec.{eqb}
use Rattle.std.specs.Ordering.{int_eq}
use Rattle.exact.proofs.Order.{same-exact}
use Rattle.axis.specs.declared.Motion.{Motion}
use Rattle.axis.specs.Estimates.{same_motion}
use Rattle.session.specs.declared.Point.{Point}
use Rattle.session.specs.Holding.{same_point}
use Rattle.session.proofs.Values.{same-by-axes}
use Rattle.session.proofs.holding.estimate_is.Goals as goal

abbrev equal : Motion → Motion → Bool
equal a b = (int_eq a.position.whole b.position.whole && eqb a.position.part b.position.part) && (int_eq a.velocity.whole b.velocity.whole && eqb a.velocity.part b.velocity.part)

same : (a b : Motion) → equal a b ≡ same_motion a b
unfolding same_motion
same a b = ap₂ (λ s t. s && t) (same-exact a.position b.position) (same-exact a.velocity b.velocity)

all-six : (q r : Point) → (equal q.x r.x && (equal q.y r.y && equal q.z r.z)) ≡ same_point q r
all-six q r = ap₂ (λ s t. s && t) (same q.x r.x) (ap₂ (λ s t. s && t) (same q.y r.y) (same q.z r.z)) ∙ sym (same-by-axes q r)

pub returns : goal.returns
returns c = c.eq.ensures ∙ all-six c.estimate_of.result c.args.q ∙ ap (λ e. same_point e c.args.q) c.estimate_of.ensures
