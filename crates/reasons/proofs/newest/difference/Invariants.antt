-- `reasons::newest::difference` meets its contract: after n turns the places hold the n-th differences.
use mathlib.Core.Path.{◌≡◌}
use Prim.Native.Nat.{◌+◌, ◌-◌, ◌^◌}
use Rattle.integers.specs.Differences.{at}
use Rattle.reasons.specs.Differences.{AtMost, difference}
use Rattle.reasons.proofs.newest.difference.Given as goal

abbrev pub invariant-loop : goal.invariant-loop
invariant-loop l = AtMost (2 ^ (28 + l.counter)) (at l.xs) × (difference (l.p - l.counter) (at l.xs) ≡ difference l.p (at l.initial.xs))
