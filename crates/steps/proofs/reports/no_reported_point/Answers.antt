-- `steps::reports::no_reported_point` meets its contract: a point at rest in the middle is in range.
use mathlib.Core.Path.{◌≡◌, refl, ap, ◌∙◌}
use mathlib.Core.Bool.{true}
use Rattle.exact.specs.Numerator.{exact_of}
use Rattle.axis.specs.Formulas.{still, motion_of}
use Rattle.axis.specs.Estimates.{in_range}
use Rattle.session.specs.Moves.{nowhere, point_in_range}
use Rattle.steps.specs.Answers.{reported_point, no_point}
use Rattle.steps.proofs.reports.no_reported_point.Goals as goal

nowhere-in-range : point_in_range nowhere ≡ true
unfolding in_range still motion_of exact_of point_in_range nowhere
nowhere-in-range = refl

pub report_point-requires : goal.report_point-requires
report_point-requires c = ap point_in_range c.no_point.ensures ∙ nowhere-in-range

pub returns : goal.returns
unfolding no_point
returns c = c.report_point.ensures ∙ ap reported_point c.no_point.ensures
