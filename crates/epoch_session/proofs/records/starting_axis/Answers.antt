-- `epoch_session::records::starting_axis` meets its contract: all sums are zero.
use mathlib.Core.Path.{refl, ◌∙◌}
use Rattle.exact.specs.Numerator.{exact_of}
use Rattle.epoch_session.specs.Records.{starting_axis}
use Rattle.epoch_session.proofs.records.starting_axis.Goals as goal

pub returns : goal.returns
unfolding starting_axis exact_of
returns c = c.axis_with.ensures ∙ rw c.no_motion.ensures refl
