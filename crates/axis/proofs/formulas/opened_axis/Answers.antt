-- `axis::formulas::opened_axis` meets its contract: what the corrector's sums leave of the position and the velocity given.
use mathlib.Core.Path.{◌∙◌, ap₂}
use Prim.Native.Nat.{◌^◌}
use borrow.Author.Rules.{sfits_of}
use lib.IntN.{◌+ℤ◌}
use Rattle.exact.specs.Numerator.{exact_of}
use Rattle.exact.proofs.Laws.{made}
use Rattle.exact.proofs.Bounds.{widen}
use Rattle.axis.specs.Formulas.{axis_with, opened_axis}
use Rattle.axis.proofs.Sums.{left_is, left-bounded}
use Rattle.axis.proofs.formulas.opened_axis.Goals as goal

pub add-second-requires : goal.add-second-requires
add-second-requires c =
    let m = c.args.point in record { bounded = widen (2 ^ 62) (left-bounded (2 ^ 52) m.position c.apply-2.result (sfits_of c.apply-2.type_inv) c.left_of-before.ensures c.requires.placed.position) tt; bounded_2 = widen (2 ^ 62) (left-bounded (2 ^ 40) m.velocity c.apply.result (sfits_of c.apply.type_inv) c.left_of-first.ensures c.requires.placed.velocity) tt }

pub returns : goal.returns
unfolding opened_axis
returns c =
    let m = c.args.point in
    let first = left_is m.velocity _ (sfits_of c.apply.type_inv) c.apply.ensures c.left_of-first.ensures in
    let before = left_is m.position _ (sfits_of c.apply-2.type_inv) c.apply-2.ensures c.left_of-before.ensures in
    let second = c.add-second.ensures ∙ ap₂ (λ y z. exact_of (y +ℤ z)) (made _ before) (made _ first) in
    c.axis_with.ensures ∙ (λ i. axis_with (first i) (second i) (c.older_motion-older.ensures i) c.args.samples (c.no_motion.ensures i))
