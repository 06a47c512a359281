-- `table_text::put_table` meets its contract: the heading and four lines, one after the other.
use native.Mathlib.Omega.{arith}
use borrow.Author.Rules.{rules}
use Rattle.text.specs.Numbers.{ascii}
use Rattle.text.proofs.Written.{piece, last}
use Rattle.text.proofs.Pieces.{has_room}
use Rattle.table_text.specs.Text.{table}
use Rattle.table_text.proofs.put_table.Goals as goal

pub returns : goal.returns
unfolding table ascii
returns c =
    piece _ c.put_heading.ensures
    (piece _ c.put_line.ensures (piece _ c.put_line-2.ensures (piece _ c.put_line-3.ensures (last c.put_line-4.ensures))))

pub put_heading-requires : goal.put_heading-requires
unfolding table ascii
put_heading-requires c = has_room (omega (arith, c.requires.room.fits))

pub put_line-requires : goal.put_line-requires
unfolding table ascii
put_line-requires c = record { le_p = c.requires.le_p; room = has_room (omega (arith, c.requires.room.fits, c.put_heading.ensures.wrote.ends, c.put_heading.ensures.wrote.long)) }

pub put_line-requires-2 : goal.put_line-requires-2
unfolding table ascii
put_line-requires-2 c = record { le_p = c.requires.le_p; room = has_room (omega (arith, c.requires.room.fits, c.put_heading.ensures.wrote.ends, c.put_heading.ensures.wrote.long, c.put_line.ensures.wrote.ends, c.put_line.ensures.wrote.long)) }

pub put_line-requires-3 : goal.put_line-requires-3
unfolding table ascii
put_line-requires-3 c = record { le_p = c.requires.le_p; room = has_room (omega (arith, c.requires.room.fits, c.put_heading.ensures.wrote.ends, c.put_heading.ensures.wrote.long, c.put_line.ensures.wrote.ends, c.put_line.ensures.wrote.long, c.put_line-2.ensures.wrote.ends, c.put_line-2.ensures.wrote.long)) }

pub put_line-requires-4 : goal.put_line-requires-4
unfolding table ascii
put_line-requires-4 c = record { le_p = c.requires.le_p; room = has_room (omega (arith, c.requires.room.fits, c.put_heading.ensures.wrote.ends, c.put_heading.ensures.wrote.long, c.put_line.ensures.wrote.ends, c.put_line.ensures.wrote.long, c.put_line-2.ensures.wrote.ends, c.put_line-2.ensures.wrote.long, c.put_line-3.ensures.wrote.ends, c.put_line-3.ensures.wrote.long)) }
