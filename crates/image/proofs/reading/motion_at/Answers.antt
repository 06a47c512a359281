-- `image::reading::motion_at` meets its contract.
use Rattle.image.specs.Reading.{motion_at}
use Rattle.image.proofs.reading.motion_at.Goals as goal

pub returns : goal.returns
unfolding motion_at
returns c = λ i. record { position = c.exact_at.ensures i; velocity = c.exact_at-2.ensures i }
