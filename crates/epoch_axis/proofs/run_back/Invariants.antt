-- `epoch_axis::run_back` meets its contract: after i turns the sums are those i steps back.
use Rattle.std.proofs.Common.{◌≡◌, ◌^◌}
use Rattle.integers.specs.Differences.{at}
use Rattle.epoch_axis.specs.Formulas.{run_back}
use Rattle.epoch_axis.proofs.Room.{Room}
use Rattle.epoch_axis.proofs.run_back.Given as goal

abbrev pub invariant-loop-i : goal.invariant-loop-i
invariant-loop-i l = Room (2 ^ 42) (2 ^ 55) l.i (record { first = l.first; before = l.before })
    × (record { first = l.first; before = l.before } ≡ run_back (at l.samples) l.i (record { first = l.initial.first; before = l.initial.before }))
