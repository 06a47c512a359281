-- `steps::corrects::largest_change` meets its contract: the changes from the last estimate.
use mathlib.Core.Path.{◌∙◌, ap}
use Rattle.axis.specs.Agreement.{sizes}
use Rattle.session.specs.Apart.{point_change}
use Rattle.session.proofs.Kept.{estimate-point-placed}
use Rattle.steps.specs.Refusals.{largest_change}
use Rattle.steps.proofs.corrects.largest_change.Goals as goal

pub point_change-requires : goal.point_change-requires
point_change-requires c = record { placed_point = c.requires.placed_point; placed_point_2 = rw c.estimate_of.ensures (estimate-point-placed c.args.s c.requires.waiting) }

pub returns : goal.returns
unfolding largest_change
returns c = c.point_change.ensures ∙ ap (λ e. sizes (point_change c.args.q e)) c.estimate_of.ensures
