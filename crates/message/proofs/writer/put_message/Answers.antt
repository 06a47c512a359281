-- `message::writer::put_message` meets its contract: the parts, one after the other.
use mathlib.Core.Path.{ap}
use mathlib.Core.List.{flatten}
use Prim.Native.Nat.{◌*◌}
use native.Mathlib.Omega.{arith}
use lib.ListN.{length}
use Rattle.text.proofs.Written.{then, retold}
use Rattle.text.proofs.Pieces.{has_room}
use Rattle.message.specs.Request.{request_of, count_of}
use Rattle.message.specs.Message.{texts, line_from}
use Rattle.message.proofs.Wholes.{well, last-time, in_parts, parts-long, times-are, all_hold}
use Rattle.message.proofs.writer.put_message.Goals as goal

pub overflow_mul-last : goal.overflow_mul-last
overflow_mul-last c =
    let r = request_of c.args.r.now in
    let t = last-time r (well r c.requires.points_value) in
    rw c.last_point.ensures (omega (arith, t))

pub overflow_add-last : goal.overflow_add-last
overflow_add-last c =
    let r = request_of c.args.r.now in
    let t = last-time r (well r c.requires.points_value) in
    rw c.last_point.ensures (omega (arith, t, c.seconds_in-first.ensures.0))

pub put_header-requires : goal.put_header-requires
put_header-requires c =
    let r = request_of c.args.r.now in
    has_room (omega (arith, parts-long c.args.edition r, c.requires.points_in_bounds))

pub put_names-requires : goal.put_names-requires
put_names-requires c =
    let r = request_of c.args.r.now in
    has_room (omega (arith, parts-long c.args.edition r, c.requires.points_in_bounds, c.put_header.ensures.wrote.ends, c.put_header.ensures.wrote.long))

pub put_times-requires : goal.put_times-requires
put_times-requires c =
    let r = request_of c.args.r.now in
    let t = last-time r (well r c.requires.points_value) in
    let e = c.seconds_in-first.ensures.0 in
    let l = ap (λ n. n * c.args.r.now.step) c.last_point.ensures in
    let m = ap (λ x. length (flatten x)) (times-are r e c.last_point.ensures) in
    let h = c.put_header.ensures.wrote in
    let n = c.put_names.ensures.wrote in
    record { first_le_most_seconds = (c.seconds_in-first.ensures.1, omega (arith, e, l, t)); room = has_room (omega (arith, parts-long c.args.edition r, c.requires.points_in_bounds, m, h.ends, h.long, n.ends, n.long)) }

pub put_lines-requires : goal.put_lines-requires
unfolding count_of
put_lines-requires c =
    let a = c.args in
    let r = request_of c.args.r.now in
    let w = well r c.requires.points_value in
    let e = c.seconds_in-first.ensures.0 in
    let m = ap (λ x. length (flatten x)) (times-are r e c.last_point.ensures) in
    let f = ap (λ s. length (texts (line_from a.r.now.tick a.r.now.step a.r.now.points.now s) (count_of a.r.now.points.now))) e in
    let h = c.put_header.ensures.wrote in
    let n = c.put_names.ensures.wrote in
    let t = c.put_times.ensures.wrote in record { step_bound = rw e (last-time r w); step_value = (w.settings, all_hold a.r.now.tick a.r.now.step a.r.now.points.now c.requires.points_value_2); points_in_bounds = omega (arith, parts-long c.args.edition r, c.requires.points_in_bounds, m, f, h.ends, h.long, n.ends, n.long, t.ends, t.long) }

pub returns : goal.returns
returns c =
    let a = c.args in
    let r = request_of c.args.r.now in
    let e = c.seconds_in-first.ensures.0 in
    let t = retold (ap flatten (times-are r e c.last_point.ensures)) c.put_times.ensures in
    let p = retold (ap (λ s. texts (line_from a.r.now.tick a.r.now.step a.r.now.points.now s) (count_of a.r.now.points.now)) e) c.put_lines.ensures in
    rw (in_parts c.args.edition r) (then c.put_header.ensures (then c.put_names.ensures (then t p)))
