-- `steps::opens::open_with` meets its contract: the samples of each axis are small.
use Rattle.steps.specs.Opening.{opened_with}
use Rattle.steps.proofs.Given.{places-small}
use Rattle.steps.proofs.opens.open_with.Goals as goal

pub open_at-requires : goal.open_at-requires
open_at-requires c =
    let p = c.args.points in
    let xs = c.args.floats.now in record { le_points = c.requires.le_points; placed_point = c.requires.placed_point; small = rw c.axis_samples-xs.ensures (places-small p 0 xs); small_2 = rw c.axis_samples-ys.ensures (places-small p 1 xs); small_3 = rw c.axis_samples-zs.ensures (places-small p 2 xs) }

pub returns : goal.returns
unfolding opened_with
returns c = rw (c.open_at.ensures, c.axis_samples-xs.ensures, c.axis_samples-ys.ensures, c.axis_samples-zs.ensures)
