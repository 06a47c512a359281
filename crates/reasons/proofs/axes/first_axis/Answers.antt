-- `reasons::axes::first_axis` meets its contract: a test of each axis.
use mathlib.Core.Path.{◌∙◌}
use mathlib.Core.List.{[], ◌∷◌}
use Rattle.ticks.specs.Samples.{axes_of}
use Rattle.reasons.specs.Reasons.{first, named, has_fault}
use Rattle.reasons.proofs.First.{first-made}
use Rattle.reasons.proofs.axes.first_axis.Goals as goal

pub returns : goal.returns
returns c =
    let a = c.args in
    c.first_place.ensures
    ∙ (λ i. first (λ t. t) named (c.has_fault.ensures i ∷ c.has_fault-2.ensures i ∷ c.has_fault-3.ensures i ∷ []))
    ∙ first-made (has_fault a.fault) 1 (axes_of a.a)
