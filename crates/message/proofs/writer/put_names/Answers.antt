-- `message::writer::put_names` meets its contract: its lines, one after the other.
use native.Mathlib.Omega.{arith}
use Rattle.text.specs.Numbers.{ascii}
use Rattle.text.proofs.Written.{piece, last}
use Rattle.text.proofs.Pieces.{has_room}
use Rattle.message.specs.Parts.{name_lines}
use Rattle.message.proofs.writer.put_names.Goals as goal

pub put_word-requires : goal.put_word-requires
unfolding name_lines ascii
put_word-requires c = omega (arith, c.requires.fits)

pub put_entry-requires : goal.put_entry-requires
unfolding name_lines ascii
put_entry-requires c = has_room (omega (arith, c.requires.fits, c.put_word.ensures.wrote.ends, c.put_word.ensures.wrote.long))

pub put_entry-requires-2 : goal.put_entry-requires-2
unfolding name_lines ascii
put_entry-requires-2 c =
    has_room (omega (arith, c.requires.fits, c.put_word.ensures.wrote.ends, c.put_word.ensures.wrote.long, c.put_entry.ensures.wrote.ends, c.put_entry.ensures.wrote.long))

pub put_entry-requires-3 : goal.put_entry-requires-3
unfolding name_lines ascii
put_entry-requires-3 c =
    has_room (omega (arith, c.requires.fits, c.put_word.ensures.wrote.ends, c.put_word.ensures.wrote.long, c.put_entry.ensures.wrote.ends, c.put_entry.ensures.wrote.long, c.put_entry-2.ensures.wrote.ends, c.put_entry-2.ensures.wrote.long))

pub put_entry-requires-4 : goal.put_entry-requires-4
unfolding name_lines ascii
put_entry-requires-4 c =
    has_room (omega (arith, c.requires.fits, c.put_word.ensures.wrote.ends, c.put_word.ensures.wrote.long, c.put_entry.ensures.wrote.ends, c.put_entry.ensures.wrote.long, c.put_entry-2.ensures.wrote.ends, c.put_entry-2.ensures.wrote.long, c.put_entry-3.ensures.wrote.ends, c.put_entry-3.ensures.wrote.long))

pub returns : goal.returns
unfolding name_lines ascii
returns c =
    piece _ c.put_word.ensures
    (piece _ c.put_entry.ensures (piece _ c.put_entry-2.ensures (piece _ c.put_entry-3.ensures (last c.put_entry-4.ensures))))
