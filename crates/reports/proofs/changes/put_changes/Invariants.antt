-- The loop's invariant: the first k changes were written.
use mathlib.Core.List.{flatten, map}
use Rattle.std.proofs.Common.{take}
use Rattle.text.specs.Writes.{Writes}
use Rattle.reports.specs.Reports.{change_text, changes_of}
use Rattle.reports.proofs.changes.put_changes.Given as goal

abbrev pub invariant-loop-k : goal.invariant-loop-k
invariant-loop-k l = Writes l.initial.w (flatten (map change_text (take l.k (changes_of l.words)))) l.w
