-- `reports::report::put_message` meets its contract: the names, and then the points.
use mathlib.Core.List.{flatten}
use native.Mathlib.Omega.{arith}
use lib.ListN.{take, length-append}
use Rattle.text.proofs.Written.{then}
use Rattle.text.proofs.Pieces.{has_room}
use Rattle.reports.specs.Reports.{names_in, points_text, points_of}
use Rattle.reports.proofs.report.put_message.Goals as goal

pub put_names-requires : goal.put_names-requires
put_names-requires c =
    let a = c.args in
    let l = length-append (flatten (names_in a.text.now a.r)) (points_text (take a.r.count (points_of a.epochs.now a.values.now))) in
    record { all_within = c.requires.all_within; room = has_room (omega (arith, c.requires.values_in_bounds, l)) }

pub put_points-requires : goal.put_points-requires
put_points-requires c =
    let a = c.args in
    let v = c.put_names.ensures.wrote in
    let l = length-append (flatten (names_in a.text.now a.r)) (points_text (take a.r.count (points_of a.epochs.now a.values.now))) in
    record { count_in_bounds = c.requires.count_in_bounds; values_in_bounds = omega (arith, c.requires.values_in_bounds, l, v.ends, v.long) }

pub returns : goal.returns
returns c = then c.put_names.ensures c.put_points.ensures
