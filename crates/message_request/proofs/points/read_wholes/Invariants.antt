-- `message_request::points::read_wholes` meets its contract. The loop's invariant: the numbers so far were read.
use Rattle.message_request.proofs.Numbers.{Reading}
use Rattle.message_request.proofs.points.read_wholes.Given as goal

abbrev pub invariant-loop-value : goal.invariant-loop-value
invariant-loop-value l = Reading l.text l.initial.end l.value-items l.value-index l.end
