-- `received::data::scan` meets its contract. The loop's invariant: the lines so far were accepted.
use Prim.Native.Nat.{◌-◌}
use lib.ListN.{length}
use Rattle.received.proofs.Scans.{Scanning}
use Rattle.received.proofs.data.scan.Given as goal

abbrev pub invariant-loop-at : goal.invariant-loop-at
invariant-loop-at l = Scanning l.text l.from l.at l.count l.first l.last l.earliest

abbrev pub decreases-loop-at : goal.decreases-loop-at
decreases-loop-at l = length l.text - l.at
