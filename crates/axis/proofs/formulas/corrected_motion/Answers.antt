-- `axis::formulas::corrected_motion` meets its contract: the held sums, with the new sample's own part, are the two formulas over all samples.
use mathlib.Core.Path.{◌∙◌, ap}
use Prim.Native.Nat.{◌^◌}
use lib.IntN.{◌+ℤ◌}
use mir.Facts.{to_z-of_z}
use Rattle.exact.specs.Numerator.{exact_of, numerator}
use Rattle.exact.proofs.Laws.{made}
use Rattle.exact.proofs.Bounds.{widen}
use Rattle.coefficients.specs.declared.Formula.TheVariants.{PositionCorrector, VelocityCorrector}
use Rattle.coefficients.specs.Formulas.{own_part}
use Rattle.axis.specs.Kinds.{of_position, of_velocity}
use Rattle.axis.specs.Formulas.{S1, S2, ticks, corrected_motion}
use Rattle.axis.proofs.Sums.{next-is, next-bounded, motion-is}
use Rattle.axis.proofs.Held.{held-value, held-bounded, corrected-sum}
use mir.Syntax.{w64}
use Rattle.axis.proofs.formulas.corrected_motion.Goals as goal

pub corrected-position-requires : goal.corrected-position-requires
corrected-position-requires c =
    record { le_p = c.requires.ready.some; bounded = widen (2 ^ 55) c.requires.ready.second tt; bounded_2 = held-bounded c.args.p c.args.a c.requires.held of_position c.requires.ready.some c.requires.ready.small; sample_bound = rw (to_z-of_z {w = w64} c.ranges.sample) c.requires.sample_bound }

pub corrected-velocity-requires : goal.corrected-velocity-requires
corrected-velocity-requires c =
    record { le_p = c.requires.ready.some; bounded = widen (2 ^ 55) (next-bounded c.args.a.first c.args.sample c.ranges.sample c.next_first-first.ensures (2 ^ 42) c.requires.ready.first c.requires.sample_bound) tt; bounded_2 = held-bounded c.args.p c.args.a c.requires.held of_velocity c.requires.ready.some c.requires.ready.small; sample_bound = rw (to_z-of_z {w = w64} c.ranges.sample) c.requires.sample_bound }

pub returns : goal.returns
unfolding corrected_motion
returns c =
    let p = c.args.p in
    let a = c.args.a in
    let n = c.args.sample in
    let h = c.requires.held in
    motion-is _ _
    (c.corrected-position.ensures
    ∙ ap (λ z. exact_of (S2 a +ℤ numerator a.older.position +ℤ own_part PositionCorrector p z)) (to_z-of_z {w = w64} c.ranges.sample)
    ∙ ap exact_of (corrected-sum PositionCorrector p (S2 a) n a.samples (held-value p a h of_position)))
    (c.corrected-velocity.ensures
    ∙ ap (λ z. exact_of (numerator c.next_first-first.result +ℤ numerator a.older.velocity +ℤ own_part VelocityCorrector p z)) (to_z-of_z {w = w64} c.ranges.sample)
    ∙ ap (λ s. exact_of (s +ℤ numerator a.older.velocity +ℤ own_part VelocityCorrector p n)) (made _ (next-is a.first n c.ranges.sample c.next_first-first.ensures))
    ∙ ap exact_of (corrected-sum VelocityCorrector p (S1 a +ℤ ticks n) n a.samples (held-value p a h of_velocity)))
