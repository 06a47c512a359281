-- `player::lines::tell_record` meets its contract: the longest record has room.
use Rattle.std.proofs.Common.{arith}
use Rattle.script.specs.Lines.{record_line}
use Rattle.script.proofs.Lengths.{record-short}
use Rattle.player.proofs.Written.{room, ends-within}
use Rattle.player.proofs.lines.tell_record.Goals as goal

pub put_record-requires : goal.put_record-requires
put_record-requires c =
    let s = c.args.answered.session in
    room (record_line s) (record-short s) c.at-w.ensures (omega arith)

pub returns-then-answered : goal.returns-then-answered
returns-then-answered c =
    let s = c.args.answered.session in
    ends-within (record_line s) (record-short s) c.at-w.ensures c.put_record.ensures c.place.ensures
