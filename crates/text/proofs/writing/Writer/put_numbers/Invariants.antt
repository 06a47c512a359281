-- The loop's invariant: the first numbers were written.
use mathlib.Core.List.{flatten, map}
use Rattle.std.proofs.Common.{take}
use Rattle.text.specs.Rows.{spaced}
use Rattle.text.specs.Writes.{Writes}
use Rattle.text.proofs.writing.Writer.put_numbers.Given as goal

abbrev pub invariant-loop-z : goal.invariant-loop-z
invariant-loop-z l = Writes l.initial.self (flatten (map spaced (take l.z-index l.row))) l.self
