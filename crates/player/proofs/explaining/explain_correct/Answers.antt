-- `player::explaining::explain_correct` meets its contract: the longest sentence has room, and the change that it shows is exact.
use Rattle.std.proofs.Common.{◌<◌, sym, subst, arith}
use Rattle.exact.specs.Numerator.{D}
use Rattle.player.proofs.Written.{room, ends-within}
use Rattle.player.proofs.Sentences.{sentence-short}
use Rattle.player.proofs.Reasons.{explained}
use Rattle.player.proofs.explaining.explain_correct.Goals as goal

pub put_sentence-requires : goal.put_sentence-requires
put_sentence-requires c = record { part_bound = subst (λ e. e.reason.change.exact.part < D) (sym c.explain.ensures) (explained _ _); room = room _ (sentence-short _ _ _) c.at-w.ensures (omega arith) }

pub returns-in-Ok : goal.returns-in-Ok
returns-in-Ok c =
    let end = ends-within _ (sentence-short _ _ _) c.at-w.ensures c.put_sentence.ensures c.place.ensures in
    omega (arith, end)
