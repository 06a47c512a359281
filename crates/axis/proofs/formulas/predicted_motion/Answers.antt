-- `axis::formulas::predicted_motion` meets its contract: the sums, each with what the samples give.
use Prim.Native.Nat.{◌^◌}
use Rattle.exact.proofs.Bounds.{widen}
use Rattle.coefficients.specs.declared.Formula.TheVariants.{PositionPredictor, VelocityPredictor}
use Rattle.axis.specs.Formulas.{predicted_motion}
use Rattle.axis.specs.Parts.{predictor_part}
use Rattle.axis.proofs.Sums.{motion-is}
use Rattle.axis.proofs.SampleParts.{position-is, velocity-is, part-bounded, sum_is}
use Rattle.axis.proofs.formulas.predicted_motion.Goals as goal

pub add-position-requires : goal.add-position-requires
unfolding predictor_part
add-position-requires c =
    let a = c.args.a in
    record { bounded = widen (2 ^ 62) c.requires.second tt; bounded_2 = part-bounded PositionPredictor c.args.p a.samples c.requires.some c.requires.small (position-is _ _ c.predictor_part-predictor.ensures) }

pub add-velocity-requires : goal.add-velocity-requires
unfolding predictor_part
add-velocity-requires c =
    let a = c.args.a in
    record { bounded = widen (2 ^ 62) c.requires.first tt; bounded_2 = part-bounded VelocityPredictor c.args.p a.samples c.requires.some c.requires.small (velocity-is _ _ c.predictor_part-predictor.ensures) }

pub returns : goal.returns
unfolding predicted_motion predictor_part
returns c =
    let a = c.args.a in
    let e = c.predictor_part-predictor.ensures in
    motion-is _ _ (sum_is a.second _ (position-is _ _ e) c.add-position.ensures) (sum_is a.first _ (velocity-is _ _ e) c.add-velocity.ensures)
