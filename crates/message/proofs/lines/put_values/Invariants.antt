-- The loop's invariant: the first k values were written.
use Rattle.text.specs.Writes.{Writes}
use Rattle.message.specs.Message.{texts, field}
use Rattle.message.proofs.lines.put_values.Given as goal

abbrev pub invariant-loop-k : goal.invariant-loop-k
invariant-loop-k l = Writes l.initial.w (texts (field l.tick l.step l.points l.i) l.k) l.w
