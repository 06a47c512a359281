-- `reports::names::put_sender` meets its contract: two lines.
use native.Mathlib.Omega.{arith}
use Rattle.text.specs.Numbers.{ascii}
use Rattle.text.proofs.Written.{piece, last}
use Rattle.text.proofs.Pieces.{has_room}
use Rattle.reports.specs.Reports.{sender_in, sender_lines}
use Rattle.reports.proofs.names.put_sender.Goals as goal

pub put_name-requires : goal.put_name-requires
unfolding sender_in sender_lines ascii
put_name-requires c = record { within = c.requires.all_within.created; room = has_room (omega (arith, c.requires.room.fits)) }

pub put_name-requires-2 : goal.put_name-requires-2
unfolding sender_in sender_lines ascii
put_name-requires-2 c =
    let v = c.put_name.ensures.wrote in
    record { within = c.requires.all_within.originator; room = has_room (omega (arith, c.requires.room.fits, v.ends, v.long)) }

pub returns : goal.returns
unfolding sender_in sender_lines ascii
returns c = piece _ c.put_name.ensures (last c.put_name-2.ensures)
