-- `axis::holding::places_by` meets its contract: the places passed hold, and the others decide.
use mathlib.Core.Path.{◌≡◌}
use Prim.Native.Nat.{◌-◌}
use lib.ListN.{drop}
use Rattle.axis.specs.Holding.{places_hold}
use Rattle.axis.proofs.holding.places_by.Given as goal

abbrev pub invariant-loop-i : goal.invariant-loop-i
invariant-loop-i l = places_hold l.p l.fn.samples ≡ places_hold (l.p - l.i) (drop l.i l.fn.samples)
