-- `script::lines::put_answer` meets its contract: its pieces, one after the other.
use native.Mathlib.Omega.{arith}
use borrow.Author.Rules.{rules}
use Rattle.text.specs.Numbers.{ascii}
use Rattle.text.proofs.Written.{piece, last}
use Rattle.text.proofs.Pieces.{has_room}
use Rattle.script.specs.Lines.{answer_line}
use Rattle.script.proofs.lines.put_answer.Goals as goal

pub put_word-requires : goal.put_word-requires
unfolding answer_line ascii
put_word-requires c = omega arith

pub put_values-requires : goal.put_values-requires
unfolding answer_line ascii
put_values-requires c = has_room (omega arith)

pub put-requires : goal.put-requires
unfolding answer_line ascii
put-requires c = omega arith

pub returns : goal.returns
unfolding answer_line ascii
returns c = piece _ c.put_word.ensures (piece _ c.put_values.ensures (last c.put.ensures))
