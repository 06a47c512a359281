-- The loop's invariant: the first i points were written.
use mathlib.Core.List.{flatten, map}
use Rattle.std.proofs.Common.{take}
use Rattle.text.specs.Writes.{Writes}
use Rattle.script.specs.Lines.{point_text}
use Rattle.script.proofs.round_lines.put_nine.Given as goal

abbrev pub invariant-loop-i : goal.invariant-loop-i
invariant-loop-i l = Writes l.initial.w (flatten (map point_text (take l.i l.points))) l.w
