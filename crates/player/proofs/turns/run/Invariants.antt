-- What is held lies within the input, and the buffers keep their lengths.
use Rattle.std.proofs.Common.{◌≡◌, ◌≤◌, length}
use Rattle.player.proofs.turns.run.Given as goal

abbrev pub invariant-loop : goal.invariant-loop
invariant-loop l = (l.place.held ≤ length l.input) × (length l.out ≡ length l.fn.out)
