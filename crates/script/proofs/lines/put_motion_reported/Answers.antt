-- `script::lines::put_motion_reported` meets its contract: its two pieces, one after the other.
use native.Mathlib.Omega.{arith}
use borrow.Author.Rules.{rules}
use Rattle.text.proofs.Written.{piece, last}
use Rattle.text.proofs.Pieces.{has_room}
use Rattle.script.specs.Lines.{motion_values}
use Rattle.script.proofs.lines.put_motion_reported.Goals as goal

pub put_reported-requires : goal.put_reported-requires
unfolding motion_values
put_reported-requires c = has_room (omega arith)

pub put_reported-requires-2 : goal.put_reported-requires-2
unfolding motion_values
put_reported-requires-2 c = has_room (omega arith)

pub returns : goal.returns
unfolding motion_values
returns c = piece _ c.put_reported.ensures (last c.put_reported-2.ensures)
