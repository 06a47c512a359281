-- `reports::points::put_point` meets its contract: its pieces, one after the other.
use native.Mathlib.Omega.{arith}
use Rattle.text.specs.Numbers.{ascii}
use Rattle.text.proofs.Written.{piece, last}
use Rattle.reports.specs.Reports.{point_line}
use Rattle.reports.proofs.points.put_point.Goals as goal

pub returns : goal.returns
unfolding point_line ascii
returns c = piece _ c.put_decimal.ensures (piece _ c.put_numbers.ensures (last c.put.ensures))

pub put_decimal-requires : goal.put_decimal-requires
unfolding point_line ascii
put_decimal-requires c = omega arith

pub put_numbers-requires : goal.put_numbers-requires
unfolding point_line ascii
put_numbers-requires c = omega arith

pub put-requires : goal.put-requires
unfolding point_line ascii
put-requires c = omega arith
