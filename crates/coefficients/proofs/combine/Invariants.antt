-- `coefficients::combine` meets its contract. The loop's invariant: the sum is that of the weights passed.
use Rattle.std.proofs.Common.{◌≡◌, take, drop}
use Rattle.integers.specs.Differences.{at, by_samples}
use Rattle.coefficients.proofs.combine.Given as goal

abbrev pub invariant-loop-i : goal.invariant-loop-i
invariant-loop-i l = l.sum ≡ by_samples (take l.i (drop l.skip l.row)) (at l.samples)
