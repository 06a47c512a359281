-- `table_text::put_heading` meets its contract: its pieces, one after the other.
use native.Mathlib.Omega.{arith}
use borrow.Author.Rules.{rules}
use Rattle.text.specs.Numbers.{ascii}
use Rattle.text.proofs.Written.{piece, last}
use Rattle.table_text.specs.Text.{heading}
use Rattle.table_text.proofs.put_heading.Goals as goal

pub put_word-requires : goal.put_word-requires
unfolding heading ascii
put_word-requires c = search rules

pub put_decimal-requires : goal.put_decimal-requires
unfolding heading ascii
put_decimal-requires c = search rules

pub put_word-requires-2 : goal.put_word-requires-2
unfolding heading ascii
put_word-requires-2 c = search rules

pub overflow_cast-put_decimal : goal.overflow_cast-put_decimal
unfolding heading ascii
overflow_cast-put_decimal c = search rules

pub put_decimal-requires-2 : goal.put_decimal-requires-2
unfolding heading ascii
put_decimal-requires-2 c = search rules

pub put_word-requires-3 : goal.put_word-requires-3
unfolding heading ascii
put_word-requires-3 c = search rules

pub returns : goal.returns
unfolding heading ascii
returns c = piece _ c.put_word.ensures (piece _ c.put_decimal.ensures (piece _ c.put_word-2.ensures (piece _ c.put_decimal-2.ensures (last c.put_word-3.ensures))))
