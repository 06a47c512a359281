-- `ticks::samples::round_sample` meets its contract: each axis is rounded, and the worst fault is that of the three.
use mathlib.Core.Path.{◌≡◌, ap, ◌∙◌}
use mathlib.Core.List.{[], ◌∷◌}
use Rattle.std.specs.Prelude.{ℤ, Result}
use Rattle.ticks.specs.declared.Fault.{Fault}
use Rattle.ticks.specs.declared.Sample.{Sample}
use Rattle.ticks.specs.Round.{rounded_of}
use Rattle.ticks.specs.Samples.{any, fault_in, axes_of, sample_of}
use Rattle.ticks.specs.Faults.{fault_of, worse, gathered}
use Rattle.ticks.proofs.Faults.{fault-cons, worse-nothing}
use Rattle.ticks.proofs.samples.round_sample.Goals as goal

of-axes : (s : Sample) → fault_in (axes_of s) ≡ worse (fault_of (rounded_of s.x)) (worse (fault_of (rounded_of s.y)) (fault_of (rounded_of s.z)))
unfolding fault_in any
of-axes s =
    fault-cons s.x (s.y ∷ s.z ∷ [])
    ∙ ap (worse (fault_of (rounded_of s.x))) (fault-cons s.y (s.z ∷ []) ∙ ap (worse (fault_of (rounded_of s.y))) (fault-cons s.z [] ∙ worse-nothing (fault_of (rounded_of s.z))))

together : (s : Sample) {x y z : Result ℤ Fault} → x ≡ rounded_of s.x → y ≡ rounded_of s.y → z ≡ rounded_of s.z → gathered x y z ≡ sample_of s
together s p q r = simp (p, q, r, of-axes s)

pub returns : goal.returns
returns c =
    c.gather.ensures
    ∙ together c.args.s c.round_to_tick.ensures c.round_to_tick-2.ensures c.round_to_tick-3.ensures
