-- `script::lines::put_axes` meets its contract: its pieces, one after the other.
use native.Mathlib.Omega.{arith}
use borrow.Author.Rules.{rules}
use Rattle.text.proofs.Written.{piece, last}
use Rattle.text.proofs.Pieces.{has_room}
use Rattle.script.specs.Lines.{axes_words}
use Rattle.script.proofs.lines.put_axes.Goals as goal

pub put_axis-requires : goal.put_axis-requires
unfolding axes_words
put_axis-requires c = has_room (omega arith)

pub put_axis-requires-2 : goal.put_axis-requires-2
unfolding axes_words
put_axis-requires-2 c = has_room (omega arith)

pub put_axis-requires-3 : goal.put_axis-requires-3
unfolding axes_words
put_axis-requires-3 c = has_room (omega arith)

pub returns : goal.returns
unfolding axes_words
returns c = piece _ c.put_axis.ensures (piece _ c.put_axis-2.ensures (last c.put_axis-3.ensures))
