-- `message::lines::put_entry` meets its contract: its pieces, one after the other.
use borrow.Author.Rules.{rules}
use Rattle.text.specs.Numbers.{ascii}
use Rattle.text.proofs.Written.{piece, last}
use Rattle.message.specs.Message.{entry}
use Rattle.message.proofs.lines.put_entry.Goals as goal

pub returns : goal.returns
unfolding entry ascii
returns c = piece _ c.put_word.ensures (piece _ c.put_word-2.ensures (piece _ c.put_word-3.ensures (last c.put_word-4.ensures)))

pub put_word-requires : goal.put_word-requires
unfolding entry ascii
put_word-requires c = search rules

pub put_word-requires-2 : goal.put_word-requires-2
unfolding entry ascii
put_word-requires-2 c = search rules

pub put_word-requires-3 : goal.put_word-requires-3
unfolding entry ascii
put_word-requires-3 c = search rules

pub put_word-requires-4 : goal.put_word-requires-4
unfolding entry ascii
put_word-requires-4 c = search rules
