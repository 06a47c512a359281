-- `epoch_steps::answers::round_points` meets its contract: after i turns the first i places are filled.
use mathlib.Core.Path.{◌≡◌}
use Rattle.epoch_steps.proofs.Places.{filled_to}
use Rattle.epoch_steps.proofs.answers.round_points.Given as goal

abbrev pub invariant-loop-i : goal.invariant-loop-i
invariant-loop-i l = l.out ≡ filled_to 9 l.r l.r.points l.i
