-- `axis::changes::change` meets its contract: the values are small.
use Rattle.axis.specs.Agreement.{change_of, sizes}
use Rattle.axis.proofs.changes.change.Goals as goal

pub returns : goal.returns
unfolding change_of sizes
returns c = λ i. record { position = c.apart-position.ensures i; velocity = c.apart-velocity.ensures i }
