-- `steps::reports::no_change` meets its contract: what does not move has reports.
use mathlib.Core.Path.{ap, ◌∙◌}
use Prim.Native.Nat.{zero-le}
use Rattle.axis.proofs.Agreement.{still-sizes}
use Rattle.steps.specs.Answers.{reported_motion, no_change}
use Rattle.steps.proofs.Changes.{sizes-report}
use Rattle.steps.proofs.reports.no_change.Goals as goal

pub report_motion-requires : goal.report_motion-requires
report_motion-requires c = let t = sizes-report (λ kind. 0) (λ kind. zero-le) in rw (c.no_motion.ensures, still-sizes) record { whole_bound = t.0; whole_bound_2 = t.1 }

pub returns : goal.returns
unfolding no_change
returns c = c.report_motion.ensures ∙ ap reported_motion c.no_motion.ensures
