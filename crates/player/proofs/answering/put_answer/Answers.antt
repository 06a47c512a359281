-- `player::answering::put_answer` meets its contract: the longest answer has room.
use Rattle.std.proofs.Common.{arith}
use Rattle.script.specs.Lines.{answer_line}
use Rattle.script.proofs.Lengths.{answer-short}
use Rattle.player.proofs.Written.{room, ends-within}
use Rattle.player.proofs.answering.put_answer.Goals as goal

pub put_answer-requires : goal.put_answer-requires
put_answer-requires c =
    let name = c.args.name.now in
    let a = c.args.answer in
    room (answer_line name a) (answer-short name a) c.at-w.ensures (omega (arith, c.requires.name_len_bound, c.requires.at_in_bounds))

pub returns : goal.returns
returns c =
    let name = c.args.name.now in
    let a = c.args.answer in
    let end = ends-within (answer_line name a) (answer-short name a) c.at-w.ensures c.put_answer.ensures c.place-end.ensures in
    omega (arith, c.requires.name_len_bound, end)
