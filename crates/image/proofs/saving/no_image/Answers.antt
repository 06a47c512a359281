-- `image::saving::no_image` meets its contract.
use Rattle.image.proofs.saving.no_image.Goals as goal

pub returns : goal.returns
returns c = λ i. record { number = 14; session = c.closed.ensures i }
