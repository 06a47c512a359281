-- `epoch_steps::answers::no_points` meets its contract: nine times nothing.
use mathlib.Core.Path.{ap}
use lib.ListN.{replicate}
use Rattle.epoch_steps.specs.Answers.{no_points}
use Rattle.epoch_steps.proofs.answers.no_points.Goals as goal

pub returns : goal.returns
unfolding no_points
returns c = ap (replicate 9) c.no_reported_point-none.ensures
