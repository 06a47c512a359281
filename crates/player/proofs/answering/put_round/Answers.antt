-- `player::answering::put_round` meets its contract: the longest answer of a round has room.
use Rattle.std.proofs.Common.{arith}
use Rattle.script.specs.Lines.{round_line}
use Rattle.script.proofs.Lengths.{round-short}
use Rattle.player.proofs.Written.{room, ends-within}
use Rattle.player.proofs.answering.put_round.Goals as goal

pub put_round-requires : goal.put_round-requires
put_round-requires c =
    let name = c.args.name.now in
    let q = c.round_answer-answer.result in
    room (round_line name q) (round-short name q) c.at-w.ensures (omega (arith, c.requires.name_len_bound, c.requires.at_in_bounds))

pub returns : goal.returns
returns c =
    let name = c.args.name.now in
    let q = c.round_answer-answer.result in
    let end = ends-within (round_line name q) (round-short name q) c.at-w.ensures c.put_round.ensures c.place-end.ensures in
    omega (arith, c.requires.name_len_bound, end)
