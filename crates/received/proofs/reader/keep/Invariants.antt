-- `received::reader::keep` meets its contract. The loop's invariant: the points of the lines so far are kept.
use Prim.Native.Nat.{◌-◌}
use lib.ListN.{length, drop}
use Rattle.received.specs.Lines.{lines_in}
use Rattle.received.specs.Data.{AllGood}
use Rattle.received.proofs.Keeps.{Keeping}
use Rattle.received.proofs.reader.keep.Given as goal

abbrev pub invariant-loop-at : goal.invariant-loop-at
invariant-loop-at l = record { keeping : Keeping l.text l.from l.initial.epochs l.initial.values l.epochs l.values l.at l.i; good : AllGood (lines_in (drop l.at l.text)) }

abbrev pub decreases-loop-at : goal.decreases-loop-at
decreases-loop-at l = length l.text - l.at
