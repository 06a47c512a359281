-- `received::mending::put_head` meets its contract: its pieces, one after the other.
use mathlib.Core.Path.{sym}
use native.Mathlib.Omega.{arith}
use Rattle.text.specs.Numbers.{ascii}
use Rattle.text.proofs.Written.{piece, last}
use Rattle.text.proofs.Pieces.{has_room}
use Rattle.received.specs.Planning.{head_of}
use Rattle.received.proofs.Mends.{front_long, back_long, head-long, start-long, stop-long}
use Rattle.received.proofs.mending.put_head.Goals as goal

pub slice_bounds-put_word-end : goal.slice_bounds-put_word-end
slice_bounds-put_word-end c =
    sym (front_long c.args.text.now c.args.p c.requires.planned)

pub put_word-requires : goal.put_word-requires
put_word-requires c =
    let a = c.args in
    omega (arith, c.requires.p_in_bounds, front_long a.text.now a.p c.requires.planned, head-long a.text.now a.p c.requires.planned)

pub put_time_entry-requires : goal.put_time_entry-requires
unfolding ascii
put_time_entry-requires c =
    let a = c.args in
    let v = c.put_word.ensures.wrote in record {
      seconds_le_most_seconds = c.requires.planned.starts-early;
      room = has_room
          (omega (arith, c.requires.p_in_bounds, front_long a.text.now a.p c.requires.planned, head-long a.text.now a.p c.requires.planned, start-long a.p.first, v.ends, v.long));
    }

pub put_time_entry-requires-2 : goal.put_time_entry-requires-2
unfolding ascii
put_time_entry-requires-2 c =
    let a = c.args in
    let v = c.put_word.ensures.wrote in
    let w = c.put_time_entry.ensures.wrote in record {
      seconds_le_most_seconds = c.requires.planned.ends-early;
      room = has_room
          (omega (arith, c.requires.p_in_bounds, front_long a.text.now a.p c.requires.planned, head-long a.text.now a.p c.requires.planned, start-long a.p.first, stop-long a.p.last, v.ends, v.long, w.ends, w.long));
    }

pub put_word-requires-2 : goal.put_word-requires-2
unfolding ascii
put_word-requires-2 c =
    let a = c.args in
    let v = c.put_word.ensures.wrote in
    let w = c.put_time_entry.ensures.wrote in
    let x = c.put_time_entry-2.ensures.wrote in
    omega (arith, c.requires.p_in_bounds, front_long a.text.now a.p c.requires.planned, back_long a.text.now a.p c.requires.planned, head-long a.text.now a.p c.requires.planned, start-long a.p.first, stop-long a.p.last, v.ends, v.long, w.ends, w.long, x.ends, x.long)

pub returns : goal.returns
unfolding head_of ascii
returns c =
    piece _ c.put_word.ensures
    (piece _ c.put_time_entry.ensures (piece _ c.put_time_entry-2.ensures (last c.put_word-2.ensures)))
