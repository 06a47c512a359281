-- `ticks::samples::gather` meets its contract: the three ticks, beside the greatest of the three faults where there is one.
use mathlib.Core.Path.{◌∙◌}
use Rattle.ticks.specs.Faults.{worse}
use Rattle.ticks.specs.Samples.{sample_with}
use Rattle.ticks.proofs.Order.{max-worse}
use Rattle.ticks.proofs.samples.gather.Goals as goal

pub returns-in-Some : goal.returns-in-Some
returns-in-Some c =
    let later = c.max.ensures ∙ max-worse c.err-2.result c.err-3.result ∙ (λ i. worse (c.err-2.ensures.value i) (c.err-3.ensures.value i)) in
    let all = c.in-Some.ensures ∙ max-worse c.err.result c.max.result ∙ (λ i. worse (c.err.ensures.value i) (later i)) in
    (λ i. sample_with (all i) (c.whole_of-ticks.ensures i))
