-- `epoch_axis::run_on` meets its contract: what is left to run comes to the same after each step.
use Rattle.std.proofs.Common.{◌≡◌, ◌-◌, ◌^◌}
use Rattle.integers.specs.Differences.{at}
use Rattle.epoch_axis.specs.Formulas.{run_on}
use Rattle.epoch_axis.proofs.Room.{Room}
use Rattle.epoch_axis.proofs.run_on.Given as goal

abbrev pub invariant-loop-i : goal.invariant-loop-i
invariant-loop-i l = Room (2 ^ 41) (2 ^ 53) (l.j - l.i) (record { first = l.first; before = l.before })
    × (run_on (at l.samples) l.i (record { first = l.first; before = l.before }) ≡ run_on (at l.samples) l.j (record { first = l.initial.first; before = l.initial.before }))
