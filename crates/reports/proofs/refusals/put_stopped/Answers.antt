-- `reports::refusals::put_stopped` meets its contract: its pieces, one after the other.
use native.Mathlib.Omega.{arith}
use borrow.Author.Rules.{rules}
use Rattle.text.specs.Numbers.{ascii}
use Rattle.text.proofs.Written.{piece, last}
use Rattle.reports.specs.Reports.{stopped_line}
use Rattle.reports.proofs.refusals.put_stopped.Goals as goal

pub put_word-requires : goal.put_word-requires
unfolding stopped_line ascii
put_word-requires c = omega arith

pub put_decimal-requires : goal.put_decimal-requires
unfolding stopped_line ascii
put_decimal-requires c = omega arith

pub put-requires : goal.put-requires
unfolding stopped_line ascii
put-requires c = omega arith

pub returns : goal.returns
unfolding stopped_line ascii
returns c = piece _ c.put_word.ensures (piece _ c.put_decimal.ensures (last c.put.ensures))
