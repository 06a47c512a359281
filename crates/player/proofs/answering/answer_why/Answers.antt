-- `player::answering::answer_why` meets its contract: the longest answer has room.
use Rattle.std.proofs.Common.{arith}
use Rattle.script.specs.Lines.{why_line}
use Rattle.script.proofs.Lengths.{why-short}
use Rattle.player.proofs.Written.{room, ends-within}
use Rattle.player.proofs.answering.answer_why.Goals as goal

pub put_why-requires : goal.put_why-requires
put_why-requires c = let e = c.explain.result in room (why_line e) (why-short e) c.at-w.ensures (omega arith)

pub returns-in-Ok : goal.returns-in-Ok
returns-in-Ok c =
    let e = c.explain.result in
    let end = ends-within (why_line e) (why-short e) c.at-w.ensures c.put_why.ensures c.place-end.ensures in
    omega (arith, end)
