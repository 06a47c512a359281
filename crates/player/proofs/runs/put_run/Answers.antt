-- `player::runs::put_run` meets its contract: the longest answer of a run has room.
use Rattle.std.proofs.Common.{arith}
use Rattle.script.proofs.Lengths.{run_short}
use Rattle.player.proofs.Written.{room, ends-within}
use Rattle.player.proofs.runs.put_run.Goals as goal

pub put_run-requires : goal.put_run-requires
put_run-requires c = room _ (run_short _ _ _) c.at-w.ensures (omega arith)

pub returns : goal.returns
returns c =
    let end = ends-within _ (run_short _ _ _) c.at-w.ensures c.put_run.ensures c.place-end.ensures in
    omega (arith, end)
