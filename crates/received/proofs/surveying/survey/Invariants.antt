-- `received::surveying::survey` meets its contract. The loop's invariant: what was kept and dropped up to a place.
use Prim.Native.Nat.{◌-◌}
use lib.ListN.{length}
use Rattle.received.proofs.Surveys.{Surveying}
use Rattle.received.proofs.surveying.survey.Given as goal

abbrev pub invariant-loop-at : goal.invariant-loop-at
invariant-loop-at l = Surveying l.text l.from l.at l.kept l.bytes l.dropped l.first l.last l.earliest

abbrev pub decreases-loop-at : goal.decreases-loop-at
decreases-loop-at l = length l.text - l.at
