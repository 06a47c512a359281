-- `axis::formulas::present_motion` meets its contract: the sums, each with what the samples give.
use mathlib.Core.Path.{◌∙◌, ap}
use Prim.Native.Nat.{◌^◌}
use lib.Dec.{lit≤}
use lib.IntN.{◌+ℤ◌}
use Rattle.integers.specs.Differences.{at, by_differences}
use Rattle.exact.specs.Numerator.{exact_of}
use Rattle.exact.proofs.Laws.{made}
use Rattle.exact.proofs.Bounds.{widen, difference-bounded}
use Rattle.coefficients.specs.declared.Formula.TheVariants.{PositionCorrector, VelocityCorrector}
use Rattle.coefficients.specs.Formulas.{position_corrector}
use Rattle.axis.specs.Formulas.{present_motion}
use Rattle.axis.specs.Parts.{corrector_part}
use Rattle.axis.proofs.Sums.{motion-is}
use Rattle.axis.proofs.SampleParts.{position-is, velocity-is, part-bounded, sum_is}
use Rattle.axis.proofs.formulas.present_motion.Goals as goal

pub add-position-requires : goal.add-position-requires
unfolding corrector_part
add-position-requires c =
    let a = c.args.a in record { bounded = difference-bounded (2 ^ 54) (2 ^ 42) (2 ^ 62) a.second a.first c.subtract-before.result c.requires.second c.requires.first (lit≤ tt) c.subtract-before.ensures; bounded_2 = part-bounded PositionCorrector c.args.p a.samples c.requires.some c.requires.small (position-is _ _ c.corrector_part-corrector.ensures) }

pub add-velocity-requires : goal.add-velocity-requires
unfolding corrector_part
add-velocity-requires c =
    let a = c.args.a in
    record { bounded = widen (2 ^ 62) c.requires.first tt; bounded_2 = part-bounded VelocityCorrector c.args.p a.samples c.requires.some c.requires.small (velocity-is _ _ c.corrector_part-corrector.ensures) }

pub returns : goal.returns
unfolding present_motion corrector_part
returns c =
    let a = c.args.a in
    let e = c.corrector_part-corrector.ensures in
    let sum = by_differences (position_corrector c.args.p) (at a.samples) in
    motion-is _ _
    (sum_is c.subtract-before.result _ (position-is _ _ e) c.add-position.ensures ∙ ap (λ z. exact_of (z +ℤ sum)) (made _ c.subtract-before.ensures))
    (sum_is a.first _ (velocity-is _ _ e) c.add-velocity.ensures)
