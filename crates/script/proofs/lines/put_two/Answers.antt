-- `script::lines::put_two` meets its contract: its two pieces, one after the other.
use native.Mathlib.Omega.{arith}
use borrow.Author.Rules.{rules}
use Rattle.text.proofs.Written.{piece, last}
use Rattle.text.proofs.Pieces.{has_room}
use Rattle.script.specs.Lines.{two}
use Rattle.script.proofs.lines.put_two.Goals as goal

pub put_natural-requires : goal.put_natural-requires
unfolding two
put_natural-requires c = has_room (omega arith)

pub put_natural-requires-2 : goal.put_natural-requires-2
unfolding two
put_natural-requires-2 c = has_room (omega arith)

pub returns : goal.returns
unfolding two
returns c = piece _ c.put_natural.ensures (last c.put_natural-2.ensures)
