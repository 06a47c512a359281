-- The loop's invariant: the first k points were written.
use mathlib.Core.List.{flatten, map}
use Rattle.std.proofs.Common.{take}
use Rattle.text.specs.Writes.{Writes}
use Rattle.reports.specs.Reports.{point_text, points_of}
use Rattle.reports.proofs.points.put_points.Given as goal

abbrev pub invariant-loop-k : goal.invariant-loop-k
invariant-loop-k l = Writes l.initial.w (flatten (map point_text (take l.k (points_of l.epochs l.values)))) l.w
