-- `reports::points::put_points` meets its contract.
use mathlib.Core.Path.{◌≡◌, sym, ap}
use mathlib.Core.List.{[], flatten}
use native.Mathlib.Omega.{arith}
use borrow.Author.Rules.{rules}
use lib.ListN.{length}
use Rattle.text.proofs.Written.{nothing, retold, one_more}
use Rattle.text.proofs.Pieces.{next-room, has_room}
use Rattle.reports.specs.Reports.{point_text, points_text, points_of}
use Rattle.reports.specs.Rooms.{point_with, length-points}
use Rattle.reports.proofs.Lines.{point-line}
use Rattle.reports.proofs.points.put_points.Goals as goal

pub loop-k-init : goal.loop-k-init
unfolding flatten
loop-k-init c = nothing c.args.w.now

pub put_point-requires : goal.put_point-requires
unfolding points_text
put_point-requires c =
    let epochs = c.args.epochs.now in
    let values = c.args.values.now in
    let k = c.loop-k.k in
    let taken = c.loop-k-test.true in
    let d = point_with 0 [] in
    let room = next-room point_text (points_of epochs values) d k c.loop-k.invariant.wrote c.args.count taken (omega (arith, c.requires.count_in_bounds.0, length-points epochs values)) c.requires.values_in_bounds in
    has_room (omega (arith, room, ap length (point-line epochs values k d (omega (arith, taken, c.requires.count_in_bounds.0)))))

pub loop-k-preserved : goal.loop-k-preserved
loop-k-preserved c =
    let epochs = c.args.epochs.now in
    let values = c.args.values.now in
    let k = c.loop-k.k in
    let taken = c.loop-k-test.true in
    let d = point_with 0 [] in
    let line = retold (sym (point-line epochs values k d (omega (arith, taken, c.requires.count_in_bounds.0)))) c.put_point.ensures in
    one_more point_text (points_of epochs values) d k c.loop-k.invariant (omega (arith, taken, c.requires.count_in_bounds.0, length-points epochs values)) line

pub returns : goal.returns
unfolding points_text
returns c =
    let all : c.loop-k.k ≡ c.args.count = search rules in
    rw all at c.loop-k.invariant
