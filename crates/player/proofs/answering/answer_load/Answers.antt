-- `player::answering::answer_load` meets its contract: the longest answer has room.
use Rattle.std.proofs.Common.{arith}
use Rattle.script.specs.Lines.{load_line}
use Rattle.script.proofs.Lengths.{load-short}
use Rattle.player.proofs.Written.{room, ends-within}
use Rattle.player.proofs.answering.answer_load.Goals as goal

pub put_load-requires : goal.put_load-requires
put_load-requires c = let n = c.in-Ok.read.number in room (load_line n) (load-short n) c.at-w.ensures (omega arith)

pub returns-in-Ok : goal.returns-in-Ok
returns-in-Ok c =
    let n = c.in-Ok.read.number in
    let end = ends-within (load_line n) (load-short n) c.at-w.ensures c.put_load.ensures c.place-end.ensures in
    omega (arith, end)
