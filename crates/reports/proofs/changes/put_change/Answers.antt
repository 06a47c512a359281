-- `reports::changes::put_change` meets its contract: the number of the line, and what was done.
use native.Mathlib.Omega.{arith}
use Rattle.text.proofs.Written.{piece, last}
use Rattle.reports.specs.Reports.{change_line}
use Rattle.reports.proofs.changes.put_change.Goals as goal

pub returns : goal.returns
unfolding change_line
returns c = piece _ c.put_decimal.ensures (last c.put_what.ensures)

pub put_decimal-requires : goal.put_decimal-requires
unfolding change_line
put_decimal-requires c = omega arith

pub put_what-requires : goal.put_what-requires
unfolding change_line
put_what-requires c = omega arith
