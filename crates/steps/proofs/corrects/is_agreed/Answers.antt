-- `steps::corrects::is_agreed` meets its contract: the point is compared with the last estimate.
use mathlib.Core.Path.{◌∙◌, ap}
use Rattle.session.specs.Apart.{points_agree}
use Rattle.session.proofs.Kept.{estimate-point-placed}
use Rattle.steps.specs.Refusals.{agrees}
use Rattle.steps.proofs.corrects.is_agreed.Goals as goal

pub points_agree-requires : goal.points_agree-requires
points_agree-requires c = record { tolerable = c.requires.waiting.tolerances; placed_point = c.requires.placed_point; placed_point_2 = rw c.estimate_of.ensures (estimate-point-placed c.args.s c.requires.waiting) }

pub returns : goal.returns
unfolding agrees
returns c = let a = c.args in c.points_agree.ensures ∙ ap (points_agree a.s.tolerances a.q) c.estimate_of.ensures
