-- `received::data::read_fields` meets its contract. The loop's invariant: k fields were read.
use Rattle.received.proofs.Fields.{Reading}
use Rattle.received.proofs.data.read_fields.Given as goal

abbrev pub invariant-loop-k : goal.invariant-loop-k
invariant-loop-k l = Reading l.line l.values l.k l.end
