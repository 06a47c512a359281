-- `running::runs::run_settled` meets its contract: what the run has come to after i samples goes on with the others to what it comes to from the start.
use mathlib.Core.Path.{◌≡◌}
use mathlib.Core.Bool.{true}
use Prim.Native.Nat.{◌≤◌}
use lib.ListN.{drop}
use Rattle.session.specs.Holding.{holds}
use Rattle.running.specs.Samples.{samples_in}
use Rattle.running.specs.Runs.{on}
use Rattle.running.proofs.runs.run_settled.Given as goal

abbrev pub invariant-loop-i : goal.invariant-loop-i
invariant-loop-i l = (l.run.answer.used ≤ l.i) × ((holds l.run.session ≡ true) × (on l.wanted l.run (drop l.i (samples_in l.samples)) ≡ on l.wanted l.initial.run (samples_in l.samples)))
