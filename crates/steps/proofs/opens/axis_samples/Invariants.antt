-- `steps::opens::axis_samples` meets its contract: after i turns the first i places are filled.
use mathlib.Core.Path.{◌≡◌}
use Rattle.axis.specs.Formulas.{places}
use Rattle.steps.specs.Opening.{axis_samples}
use Rattle.steps.proofs.opens.axis_samples.Given as goal

abbrev pub invariant-loop-i : goal.invariant-loop-i
invariant-loop-i l = l.out ≡ places l.i (axis_samples l.p l.k l.floats)
