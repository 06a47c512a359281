-- `epoch_session::rounds::round_in_range` meets its contract: the points passed are in range, and one that is not decides.
use mathlib.Core.Path.{◌≡◌}
use mathlib.Core.Bool.{true}
use Rattle.session.specs.Moves.{point_in_range}
use Rattle.epoch_session.specs.Rounds.{every_below, earlier_point}
use Rattle.epoch_session.proofs.rounds.round_in_range.Given as goal

abbrev pub invariant-loop-j : goal.invariant-loop-j
invariant-loop-j l = every_below l.j (λ j. point_in_range (earlier_point l.r j)) ≡ true
