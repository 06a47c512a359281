-- `reports::names::put_object` meets its contract: four lines.
use native.Mathlib.Omega.{arith}
use Rattle.text.specs.Numbers.{ascii}
use Rattle.text.proofs.Written.{piece, last}
use Rattle.text.proofs.Pieces.{has_room}
use Rattle.reports.specs.Reports.{object_in, object_lines}
use Rattle.reports.proofs.names.put_object.Goals as goal

pub put_name-requires : goal.put_name-requires
unfolding object_in object_lines ascii
put_name-requires c = record { within = c.requires.all_within.object; room = has_room (omega (arith, c.requires.room.fits)) }

pub put_name-requires-2 : goal.put_name-requires-2
unfolding object_in object_lines ascii
put_name-requires-2 c =
    let x = c.put_name.ensures.wrote in
    record { within = c.requires.all_within.id; room = has_room (omega (arith, c.requires.room.fits, x.ends, x.long)) }

pub put_name-requires-3 : goal.put_name-requires-3
unfolding object_in object_lines ascii
put_name-requires-3 c =
    let x = c.put_name.ensures.wrote in
    let y = c.put_name-2.ensures.wrote in
    record { within = c.requires.all_within.center; room = has_room (omega (arith, c.requires.room.fits, x.ends, x.long, y.ends, y.long)) }

pub put_name-requires-4 : goal.put_name-requires-4
unfolding object_in object_lines ascii
put_name-requires-4 c =
    let x = c.put_name.ensures.wrote in
    let y = c.put_name-2.ensures.wrote in
    let z = c.put_name-3.ensures.wrote in
    record { within = c.requires.all_within.frame; room = has_room (omega (arith, c.requires.room.fits, x.ends, x.long, y.ends, y.long, z.ends, z.long)) }

pub returns : goal.returns
unfolding object_in object_lines ascii
returns c =
    let second = piece _ c.put_name-2.ensures (piece _ c.put_name-3.ensures (last c.put_name-4.ensures)) in
    piece _ c.put_name.ensures second
