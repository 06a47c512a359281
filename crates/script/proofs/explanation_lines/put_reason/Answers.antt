-- `script::explanation_lines::put_reason` meets its contract: its pieces, one after the other.
use native.Mathlib.Omega.{arith}
use borrow.Author.Rules.{rules}
use Rattle.text.proofs.Written.{piece, last}
use Rattle.text.proofs.Pieces.{has_room}
use Rattle.script.specs.Lines.{reason_words}
use Rattle.script.proofs.explanation_lines.put_reason.Goals as goal

pub overflow_cast-r : goal.overflow_cast-r
unfolding reason_words
overflow_cast-r c = search rules

pub put_natural-requires : goal.put_natural-requires
unfolding reason_words
put_natural-requires c = has_room (omega arith)

pub put_reported-requires : goal.put_reported-requires
unfolding reason_words
put_reported-requires c = has_room (omega arith)

pub put_natural-requires-2 : goal.put_natural-requires-2
unfolding reason_words
put_natural-requires-2 c = has_room (omega arith)

pub returns : goal.returns
unfolding reason_words
returns c = piece _ c.put_natural.ensures (piece _ c.put_reported.ensures (last c.put_natural-2.ensures))
