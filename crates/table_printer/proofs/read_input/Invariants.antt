-- The bytes that are held lie within the buffer, which keeps its length.
use Rattle.std.proofs.Common.{length, ◌-◌, ◌≡◌, ◌≤◌}
use Rattle.table_printer.proofs.read_input.Given as goal

abbrev pub invariant-loop-held : goal.invariant-loop-held
invariant-loop-held l = (l.held ≤ length l.input) × (length l.input ≡ length l.fn.input)

abbrev pub decreases-loop-held : goal.decreases-loop-held
decreases-loop-held l = length l.input - l.held
