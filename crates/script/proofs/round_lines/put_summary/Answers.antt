-- `script::round_lines::put_summary` meets its contract: its pieces, one after the other.
use native.Mathlib.Omega.{arith}
use borrow.Author.Rules.{rules}
use Rattle.text.proofs.Written.{piece, last}
use Rattle.text.proofs.Pieces.{has_room}
use Rattle.script.specs.Lines.{round_values}
use Rattle.script.proofs.round_lines.put_summary.Goals as goal

pub put_natural-requires : goal.put_natural-requires
unfolding round_values
put_natural-requires c = has_room (omega arith)

pub put_natural-requires-2 : goal.put_natural-requires-2
unfolding round_values
put_natural-requires-2 c = has_room (omega arith)

pub put_motion_reported-requires : goal.put_motion_reported-requires
unfolding round_values
put_motion_reported-requires c = has_room (omega arith)

pub returns : goal.returns
unfolding round_values
returns c = piece _ c.put_natural.ensures (piece _ c.put_natural-2.ensures (last c.put_motion_reported.ensures))
