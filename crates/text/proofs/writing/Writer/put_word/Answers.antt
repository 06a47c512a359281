-- `text::writing::Writer::put_word` meets its contract.
use Rattle.std.proofs.Common.{add-one}
use Rattle.std.proofs.Math.Seq.{take-suc}
use Rattle.text.proofs.Written.{nothing, then}
use Rattle.text.proofs.writing.Writer.put_word.Goals as goal

pub loop-b-init : goal.loop-b-init
loop-b-init c = nothing c.args.self.now

pub loop-b-preserved : goal.loop-b-preserved
loop-b-preserved c =
    rw (add-one, take-suc c.args.word.now c.loop-b.b-index 0 c.loop-b-test.true) (then c.loop-b.invariant c.put.ensures)
