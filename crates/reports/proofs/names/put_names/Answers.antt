-- `reports::names::put_names` meets its contract: the lines of the sender and of the object.
use native.Mathlib.Omega.{arith}
use Rattle.text.proofs.Written.{piece, last}
use Rattle.text.proofs.Pieces.{has_room}
use Rattle.reports.specs.Reports.{names_in}
use Rattle.reports.proofs.names.put_names.Goals as goal

pub put_sender-requires : goal.put_sender-requires
unfolding names_in
put_sender-requires c = record { all_within = c.requires.all_within; room = has_room (omega (arith, c.requires.room.fits)) }

pub put_object-requires : goal.put_object-requires
unfolding names_in
put_object-requires c =
    let v = c.put_sender.ensures.wrote in
    record { all_within = c.requires.all_within; room = has_room (omega (arith, c.requires.room.fits, v.ends, v.long)) }

pub returns : goal.returns
unfolding names_in
returns c = piece _ c.put_sender.ensures (last c.put_object.ensures)
