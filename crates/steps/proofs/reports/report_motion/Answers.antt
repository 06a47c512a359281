-- `steps::reports::report_motion` meets its contract: a position and a velocity that have reports.
use Rattle.steps.specs.Answers.{reported_motion}
use Rattle.steps.proofs.reports.report_motion.Goals as goal

pub returns : goal.returns
unfolding reported_motion
returns c = rw (c.reported-position.ensures, c.reported-velocity.ensures)

pub reported-position-requires : goal.reported-position-requires
reported-position-requires c = c.requires.whole_bound

pub reported-velocity-requires : goal.reported-velocity-requires
reported-velocity-requires c = c.requires.whole_bound_2
