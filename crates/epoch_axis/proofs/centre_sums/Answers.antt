-- `epoch_axis::centre_sums` meets its contract: what the series leave of the epoch.
use Prim.Native.Nat.{◌^◌}
use native.Mathlib.Omega.{arith}
use borrow.Author.Rules.{sfits_of}
use Rattle.exact.proofs.Bounds.{widen}
use Rattle.epoch_coefficients.proofs.Centre.{at-least-3}
use Rattle.axis.proofs.Sums.{left_is}
use Rattle.epoch_axis.specs.Formulas.{centre_sums}
use Rattle.epoch_axis.proofs.centre_sums.Goals as goal

pub overflow_sub-j : goal.overflow_sub-j
overflow_sub-j c = omega (arith, at-least-3 c.requires.p_value)

pub velocity_sum-requires : goal.velocity_sum-requires
velocity_sum-requires c = record { p_value = c.requires.p_value; j_lt_p = omega (arith, at-least-3 c.requires.p_value); small = c.requires.small }

pub left_of-first-requires : goal.left_of-first-requires
left_of-first-requires c = widen (2 ^ 52) c.requires.placed.velocity tt

pub position_sum-requires : goal.position_sum-requires
position_sum-requires c = record { p_value = c.requires.p_value; j_lt_p = omega (arith, at-least-3 c.requires.p_value); small = c.requires.small }

pub returns : goal.returns
unfolding centre_sums
returns c =
    let m = c.args.epoch in
    let first = left_is m.velocity _ (sfits_of c.velocity_sum.type_inv) c.velocity_sum.ensures c.left_of-first.ensures in
    let before = left_is m.position _ (sfits_of c.position_sum.type_inv) c.position_sum.ensures c.left_of-before.ensures in
    λ i. record { first = first i; before = before i }
