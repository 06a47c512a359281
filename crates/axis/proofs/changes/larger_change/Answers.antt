-- `axis::changes::larger_change` meets its contract: the larger of two values, once for each kind.
use Rattle.axis.specs.Agreement.{larger_motion}
use Rattle.axis.proofs.changes.larger_change.Goals as goal

pub returns : goal.returns
unfolding larger_motion
returns c = λ i. record { position = c.larger-position.ensures i; velocity = c.larger-velocity.ensures i }
