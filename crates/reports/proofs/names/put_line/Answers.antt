-- `reports::names::put_line` meets its contract: its pieces, one after the other.
use native.Mathlib.Omega.{arith}
use Rattle.text.specs.Numbers.{ascii}
use Rattle.text.proofs.Written.{piece, last}
use Rattle.reports.specs.Reports.{name_line}
use Rattle.reports.proofs.names.put_line.Goals as goal

pub returns : goal.returns
unfolding name_line ascii
returns c = piece _ c.put_word.ensures (piece _ c.put.ensures (piece _ c.put_word-2.ensures (last c.put-2.ensures)))

pub put_word-requires : goal.put_word-requires
unfolding name_line ascii
put_word-requires c = omega arith

pub put-requires : goal.put-requires
unfolding name_line ascii
put-requires c = omega arith

pub put_word-requires-2 : goal.put_word-requires-2
unfolding name_line ascii
put_word-requires-2 c = omega arith

pub put-requires-2 : goal.put-requires-2
unfolding name_line ascii
put-requires-2 c = omega arith
