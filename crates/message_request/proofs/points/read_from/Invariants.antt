-- `message_request::points::read_from` meets its contract. The loop's invariant: the points so far were kept. The measure is the room that is left.
use Rattle.std.proofs.Common.{◌-◌, length}
use Rattle.message_request.proofs.Kept.{Taking}
use Rattle.message_request.proofs.points.read_from.Given as goal

abbrev pub invariant-loop-at : goal.invariant-loop-at
invariant-loop-at l = Taking l.text l.start l.initial.numbers l.numbers l.count l.at

abbrev pub decreases-loop-at : goal.decreases-loop-at
decreases-loop-at l = length l.initial.numbers - l.count
