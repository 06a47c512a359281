-- `axis::formulas::advanced_axis` meets its contract: the sums and the samples, one point on.
use mathlib.Core.Path.{◌∙◌, ap}
use Prim.Native.Nat.{◌^◌}
use lib.IntN.{◌+ℤ◌}
use mir.Facts.{to_z-of_z}
use Rattle.exact.specs.Numerator.{exact_of, numerator}
use Rattle.exact.proofs.Laws.{made}
use Rattle.exact.proofs.Bounds.{widen}
use Rattle.coefficients.proofs.Samples.{cons}
use Rattle.axis.specs.Formulas.{axis_with, older_motion, advanced_axis, kept_samples}
use Rattle.axis.proofs.Places.{places-small}
use Rattle.axis.proofs.Sums.{next-is, next-bounded}
use mir.Syntax.{w64}
use Rattle.axis.proofs.formulas.advanced_axis.Goals as goal

pub add-second-requires : goal.add-second-requires
add-second-requires c =
    record { bounded = widen (2 ^ 62) c.requires.ready.second tt; bounded_2 = widen (2 ^ 62) (next-bounded c.args.a.first c.args.sample c.ranges.sample c.next_first-first.ensures (2 ^ 42) c.requires.ready.first c.requires.sample_bound) tt }

pub older_motion-older-requires : goal.older_motion-older-requires
unfolding kept_samples
older_motion-older-requires c =
    let e = c.keep_samples-samples.ensures ∙ ap (λ z. kept_samples c.args.p z c.args.a.samples) (to_z-of_z {w = w64} c.ranges.sample) in
    record { le_p = c.requires.ready.some; small = rw e (places-small c.args.p (cons c.requires.sample_bound c.requires.ready.small)) }

pub returns : goal.returns
unfolding advanced_axis
returns c =
    let a = c.args.a in
    let e = c.keep_samples-samples.ensures ∙ ap (λ z. kept_samples c.args.p z a.samples) (to_z-of_z {w = w64} c.ranges.sample) in
    let f = next-is a.first c.args.sample c.ranges.sample c.next_first-first.ensures in
    let g = c.add-second.ensures ∙ ap (λ z. exact_of (numerator a.second +ℤ z)) (made _ f) in
    let older = c.older_motion-older.ensures ∙ ap (older_motion c.args.p) e in
    c.axis_with.ensures ∙ (λ i. axis_with (f i) (g i) (older i) (e i) (c.no_motion.ensures i))
