-- `player::lines::stop` meets its contract: the line has room.
use Rattle.std.proofs.Common.{refl, arith}
use Rattle.script.specs.Lines.{no_call_line}
use Rattle.script.proofs.Lengths.{no-call-short}
use Rattle.player.proofs.Written.{room, ends-within}
use Rattle.player.proofs.lines.stop.Goals as goal

pub put_no_call-requires : goal.put_no_call-requires
put_no_call-requires c = room (no_call_line c.args.count) (no-call-short c.args.count) c.at-w.ensures (omega (arith, c.requires))

pub returns : goal.returns
returns c =
    let end = ends-within (no_call_line c.args.count) (no-call-short c.args.count) c.at-w.ensures c.put_no_call.ensures c.place-written.ensures in
    record { written_in_bounds = omega (arith, c.requires, end); used_value = refl }
