-- `script::lines::put_values` meets its contract: its pieces, one after the other.
use native.Mathlib.Omega.{arith}
use borrow.Author.Rules.{rules}
use Rattle.text.proofs.Written.{piece, last}
use Rattle.text.proofs.Pieces.{has_room}
use Rattle.script.specs.Lines.{answer_values}
use Rattle.script.proofs.lines.put_values.Goals as goal

pub overflow_cast-answer : goal.overflow_cast-answer
unfolding answer_values
overflow_cast-answer c = search rules

pub put_natural-requires : goal.put_natural-requires
unfolding answer_values
put_natural-requires c = has_room (omega arith)

pub overflow_cast-answer-2 : goal.overflow_cast-answer-2
unfolding answer_values
overflow_cast-answer-2 c = search rules

pub put_natural-requires-2 : goal.put_natural-requires-2
unfolding answer_values
put_natural-requires-2 c = has_room (omega arith)

pub put_point-requires : goal.put_point-requires
unfolding answer_values
put_point-requires c = has_room (omega arith)

pub put_motion_reported-requires : goal.put_motion_reported-requires
unfolding answer_values
put_motion_reported-requires c = has_room (omega arith)

pub returns : goal.returns
unfolding answer_values
returns c = piece _ c.put_natural.ensures (piece _ c.put_natural-2.ensures (piece _ c.put_point.ensures (last c.put_motion_reported.ensures)))
