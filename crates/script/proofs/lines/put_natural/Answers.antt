-- `script::lines::put_natural` meets its contract: a space and the number.
use native.Mathlib.Omega.{arith}
use borrow.Author.Rules.{rules}
use Rattle.text.specs.Numbers.{ascii}
use Rattle.text.proofs.Written.{piece, last}
use Rattle.script.specs.Lines.{natural}
use Rattle.script.proofs.lines.put_natural.Goals as goal

pub put-requires : goal.put-requires
unfolding natural ascii
put-requires c = omega arith

pub put_decimal-requires : goal.put_decimal-requires
unfolding natural ascii
put_decimal-requires c = omega arith

pub returns : goal.returns
unfolding natural ascii
returns c = piece _ c.put.ensures (last c.put_decimal.ensures)
