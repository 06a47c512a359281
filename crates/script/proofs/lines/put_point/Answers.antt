-- `script::lines::put_point` meets its contract: its pieces, one after the other.
use native.Mathlib.Omega.{arith}
use borrow.Author.Rules.{rules}
use Rattle.text.proofs.Written.{piece, last}
use Rattle.text.proofs.Pieces.{has_room}
use Rattle.script.specs.Lines.{point_values}
use Rattle.script.proofs.lines.put_point.Goals as goal

pub put_motion_reported-requires : goal.put_motion_reported-requires
unfolding point_values
put_motion_reported-requires c = has_room (omega arith)

pub put_motion_reported-requires-2 : goal.put_motion_reported-requires-2
unfolding point_values
put_motion_reported-requires-2 c = has_room (omega arith)

pub put_motion_reported-requires-3 : goal.put_motion_reported-requires-3
unfolding point_values
put_motion_reported-requires-3 c = has_room (omega arith)

pub returns : goal.returns
unfolding point_values
returns c = piece _ c.put_motion_reported.ensures (piece _ c.put_motion_reported-2.ensures (last c.put_motion_reported-3.ensures))
