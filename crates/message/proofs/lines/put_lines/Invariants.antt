-- The loop's invariant: the first i lines were written.
use Rattle.std.proofs.Common.{◌≡◌, ◌+◌, ◌*◌}
use Rattle.text.specs.Writes.{Writes}
use Rattle.message.specs.Message.{texts, line_from}
use Rattle.message.proofs.lines.put_lines.Given as goal

abbrev pub invariant-loop-i : goal.invariant-loop-i
invariant-loop-i l =
    record {
      time : l.seconds ≡ l.first + l.i * l.step;
      lines : Writes l.initial.w (texts (line_from l.tick l.step l.points l.first) l.i) l.w;
    }
