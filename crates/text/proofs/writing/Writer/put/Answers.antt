-- `text::writing::Writer::put` meets its contract.
use Rattle.std.proofs.Common.{arith, refl, ◌+◌}
use Rattle.text.proofs.Pieces.{byte}
use Rattle.text.proofs.writing.Writer.put.Goals as goal

pub returns : goal.returns
returns c = record { same = refl; wrote = byte c.args.self.now.out.now c.args.self.now.at c.args.b (omega arith) }
