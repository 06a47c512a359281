-- `epoch_session::comparing::rounds_agree` meets its contract: the points passed agree, and one that does not decides.
use mathlib.Core.Path.{◌≡◌}
use mathlib.Core.Bool.{true}
use Rattle.session.specs.Apart.{points_agree}
use Rattle.epoch_session.specs.Rounds.{every_below, earlier_point}
use Rattle.epoch_session.proofs.comparing.rounds_agree.Given as goal

abbrev pub invariant-loop-j : goal.invariant-loop-j
invariant-loop-j l = every_below l.j (λ j. points_agree l.tolerances (earlier_point l.r j) (earlier_point l.before j)) ≡ true
