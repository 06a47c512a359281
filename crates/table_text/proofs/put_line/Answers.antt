-- `table_text::put_line` meets its contract: its pieces, one after the other.
use native.Mathlib.Omega.{arith}
use borrow.Author.Rules.{rules}
use Rattle.text.specs.Numbers.{ascii}
use Rattle.text.proofs.Written.{piece, last}
use Rattle.table_text.specs.Text.{line}
use Rattle.table_text.proofs.put_line.Goals as goal

pub put_word-requires : goal.put_word-requires
unfolding line ascii
put_word-requires c = search rules

pub put_weights-requires : goal.put_weights-requires
unfolding line ascii
put_weights-requires c = search rules

pub put_word-requires-2 : goal.put_word-requires-2
unfolding line ascii
put_word-requires-2 c = search rules

pub returns : goal.returns
unfolding line ascii
returns c = piece _ c.put_word.ensures (piece _ c.put_weights.ensures (last c.put_word-2.ensures))
