-- `image::reading::axis_at` meets its contract: two sums, the held sum, the samples and the estimate.
use mathlib.Core.Path.{◌∙◌}
use Rattle.axis.specs.Formulas.{axis_with}
use Rattle.image.specs.Reading.{axis_at}
use Rattle.image.proofs.reading.axis_at.Goals as goal

pub returns : goal.returns
unfolding axis_at
returns c =
    c.axis_with.ensures
    ∙ (λ i. axis_with (c.exact_at-first.ensures i) (c.exact_at-second.ensures i) (c.motion_at-older.ensures i) (c.samples_at-samples.ensures i) (c.motion_at-estimate.ensures i))
