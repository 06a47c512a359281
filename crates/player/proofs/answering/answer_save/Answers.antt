-- `player::answering::answer_save` meets its contract: the answer has room.
use Rattle.std.proofs.Common.{arith}
use Rattle.script.specs.Lines.{save_line}
use Rattle.script.proofs.Lengths.{save-short}
use Rattle.player.proofs.Written.{room, ends-within}
use Rattle.player.proofs.answering.answer_save.Goals as goal

pub put_save-requires : goal.put_save-requires
put_save-requires c = room (save_line c.args.s) (save-short c.args.s) c.at-w.ensures (omega (arith, c.requires))

pub returns : goal.returns
returns c =
    let s = c.args.s in
    let end = ends-within (save_line s) (save-short s) c.at-w.ensures c.put_save.ensures c.place-end.ensures in
    omega (arith, end)
