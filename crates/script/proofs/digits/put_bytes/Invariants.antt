-- The loop's invariant: the first bytes were written.
use mathlib.Core.List.{flatten, map}
use Rattle.std.proofs.Common.{take}
use Rattle.text.specs.Writes.{Writes}
use Rattle.script.specs.Bytes.{byte_digits}
use Rattle.script.proofs.digits.put_bytes.Given as goal

abbrev pub invariant-loop-b : goal.invariant-loop-b
invariant-loop-b l = Writes l.initial.w (flatten (map byte_digits (take l.b-index l.bytes))) l.w
