-- `message::writer::put_times` meets its contract: its lines, one after the other.
use native.Mathlib.Omega.{arith}
use Rattle.text.specs.Numbers.{ascii}
use Rattle.text.proofs.Written.{piece, last}
use Rattle.text.proofs.Pieces.{has_room}
use Rattle.message.specs.Parts.{time_lines}
use Rattle.message.proofs.writer.put_times.Goals as goal

pub put_entry-requires : goal.put_entry-requires
unfolding time_lines ascii
put_entry-requires c = has_room (omega (arith, c.requires.room.fits))

pub put_time_entry-requires : goal.put_time_entry-requires
unfolding time_lines ascii
put_time_entry-requires c = record { seconds_le_most_seconds = c.requires.first_le_most_seconds.0; room = has_room (omega (arith, c.requires.room.fits, c.put_entry.ensures.wrote.ends, c.put_entry.ensures.wrote.long)) }

pub put_time_entry-requires-2 : goal.put_time_entry-requires-2
unfolding time_lines ascii
put_time_entry-requires-2 c = record { seconds_le_most_seconds = c.requires.first_le_most_seconds.1; room = has_room (omega (arith, c.requires.room.fits, c.put_entry.ensures.wrote.ends, c.put_entry.ensures.wrote.long, c.put_time_entry.ensures.wrote.ends, c.put_time_entry.ensures.wrote.long)) }

pub put_word-requires : goal.put_word-requires
unfolding time_lines ascii
put_word-requires c =
    omega (arith, c.requires.room.fits, c.put_entry.ensures.wrote.ends, c.put_entry.ensures.wrote.long, c.put_time_entry.ensures.wrote.ends, c.put_time_entry.ensures.wrote.long, c.put_time_entry-2.ensures.wrote.ends, c.put_time_entry-2.ensures.wrote.long)

pub returns : goal.returns
unfolding time_lines ascii
returns c =
    piece _ c.put_entry.ensures (piece _ c.put_time_entry.ensures (piece _ c.put_time_entry-2.ensures (last c.put_word.ensures)))
