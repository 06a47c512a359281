-- `message::writer::put_header` meets its contract: its lines, one after the other.
use native.Mathlib.Omega.{arith}
use Rattle.text.specs.Numbers.{ascii}
use Rattle.text.proofs.Written.{piece, last}
use Rattle.text.proofs.Pieces.{has_room}
use Rattle.message.specs.Parts.{header_lines}
use Rattle.message.proofs.writer.put_header.Goals as goal

pub put_version-requires : goal.put_version-requires
unfolding header_lines ascii
put_version-requires c = omega (arith, c.requires.fits)

pub put_entry-requires : goal.put_entry-requires
unfolding header_lines ascii
put_entry-requires c = has_room (omega (arith, c.requires.fits, c.put_version.ensures.wrote.ends, c.put_version.ensures.wrote.long))

pub put_entry-requires-2 : goal.put_entry-requires-2
unfolding header_lines ascii
put_entry-requires-2 c =
    has_room (omega (arith, c.requires.fits, c.put_version.ensures.wrote.ends, c.put_version.ensures.wrote.long, c.put_entry.ensures.wrote.ends, c.put_entry.ensures.wrote.long))

pub returns : goal.returns
unfolding header_lines ascii
returns c = piece _ c.put_version.ensures (piece _ c.put_entry.ensures (last c.put_entry-2.ensures))
