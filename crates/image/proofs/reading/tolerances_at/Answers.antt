-- `image::reading::tolerances_at` meets its contract.
use Rattle.image.specs.Reading.{tolerances_at}
use Rattle.image.proofs.reading.tolerances_at.Goals as goal

pub returns : goal.returns
unfolding tolerances_at
returns c = λ i. record { position = c.word_at.ensures i; velocity = c.word_at-2.ensures i }
