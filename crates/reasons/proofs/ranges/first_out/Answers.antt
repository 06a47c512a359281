-- `reasons::ranges::first_out` meets its contract: a test of each of the six.
use mathlib.Core.Path.{◌∙◌}
use mathlib.Core.Bool.{not}
use mathlib.Core.List.{[], ◌∷◌}
use Rattle.session.specs.Values.{six}
use Rattle.reasons.specs.Reasons.{first, named, is_out}
use Rattle.reasons.proofs.First.{first-made}
use Rattle.reasons.proofs.ranges.first_out.Goals as goal

pub returns : goal.returns
returns c =
    c.first_place.ensures
    ∙ (λ i.
    first (λ t. t) named
    (not (c.is_position.ensures i)
    ∷ not (c.is_position-2.ensures i)
    ∷ not (c.is_position-3.ensures i)
    ∷ not (c.is_velocity.ensures i)
    ∷ not (c.is_velocity-2.ensures i)
    ∷ not (c.is_velocity-3.ensures i)
    ∷ []))
    ∙ first-made (is_out c.args.q) 1 six
