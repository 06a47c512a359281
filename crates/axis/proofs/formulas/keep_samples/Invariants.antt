-- `axis::formulas::keep_samples` meets its contract: after i turns the first i places are filled.
use Rattle.std.proofs.Common.{◌≡◌, ◌∷◌}
use Rattle.axis.specs.Formulas.{places}
use Rattle.axis.proofs.formulas.keep_samples.Given as goal

abbrev pub invariant-loop-i : goal.invariant-loop-i
invariant-loop-i l = l.out ≡ places l.i (l.sample ∷ l.samples)
