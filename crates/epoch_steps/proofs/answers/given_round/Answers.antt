-- `epoch_steps::answers::given_round` meets its contract: the samples of each axis are small.
use mathlib.Core.Path.{◌≡◌}
use mathlib.Core.Bool.{true}
use Prim.Native.Nat.{ℕ, ◌≤◌}
use native.Mathlib.Omega.{arith}
use lib.Dec.{lit<}
use Rattle.epoch_coefficients.specs.Formulas.{has_centre}
use Rattle.epoch_coefficients.proofs.Centre.{at-least-3, at-most-9}
use Rattle.steps.proofs.Given.{places-small}
use Rattle.epoch_steps.specs.Refusals.{given_round}
use Rattle.epoch_steps.proofs.answers.given_round.Goals as goal

some-points : (p : ℕ) → has_centre p ≡ true → (1 ≤ p) × (p ≤ 9)
some-points p h = (omega (arith, at-least-3 h), at-most-9 h)

pub axis_samples-xs-requires : goal.axis_samples-xs-requires
axis_samples-xs-requires c = record { le_p = some-points c.args.points c.requires.points_value; k_bound = lit< tt; floats_len = c.requires.floats_len }

pub axis_samples-ys-requires : goal.axis_samples-ys-requires
axis_samples-ys-requires c = record { le_p = some-points c.args.points c.requires.points_value; k_bound = lit< tt; floats_len = c.requires.floats_len }

pub axis_samples-zs-requires : goal.axis_samples-zs-requires
axis_samples-zs-requires c = record { le_p = some-points c.args.points c.requires.points_value; k_bound = lit< tt; floats_len = c.requires.floats_len }

pub round_of-requires : goal.round_of-requires
round_of-requires c =
    let p = c.args.points in
    let xs = c.args.floats.now in record { points_value = c.requires.points_value; placed_point = c.requires.placed_point; small = rw c.axis_samples-xs.ensures (places-small p 0 xs); small_2 = rw c.axis_samples-ys.ensures (places-small p 1 xs); small_3 = rw c.axis_samples-zs.ensures (places-small p 2 xs) }

pub returns : goal.returns
unfolding given_round
returns c = rw (c.round_of.ensures, c.axis_samples-xs.ensures, c.axis_samples-ys.ensures, c.axis_samples-zs.ensures)
