-- `reasons::newest::backward` meets its contract: after i turns the places below i hold their differences.
use mathlib.Core.Path.{◌≡◌}
use lib.ListN.{length}
use Rattle.integers.specs.Differences.{at, back}
use Rattle.reasons.proofs.Backward.{Mixed}
use Rattle.reasons.proofs.newest.backward.Given as goal

abbrev pub invariant-loop-i : goal.invariant-loop-i
invariant-loop-i l = (length l.out ≡ 10) × Mixed (back (at l.xs)) (at l.xs) l.i l.out
