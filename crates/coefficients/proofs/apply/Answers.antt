-- `coefficients::apply` meets its contract: the row is light enough for `combine`, and comes to what the differences come to.
use mathlib.Core.Path.{◌∙◌, ap}
use lib.ListN.{take}
use mir.Syntax.{w64}
use mir.ValLaws.{to_z-of_z}
use Rattle.integers.specs.Differences.{at, by_samples}
use Rattle.coefficients.specs.Formulas.{weights_of}
use Rattle.coefficients.proofs.Bounds.{bounded}
use Rattle.coefficients.proofs.Rows.{length-weights, used-law}
use Rattle.coefficients.proofs.apply.Goals as goal

pub combine-requires-clause-row_bound : goal.combine-requires-clause-row_bound
combine-requires-clause-row_bound c = rw c.weights.ensures (bounded c.args.which c.args.p c.requires.le_p)

pub returns : goal.returns
returns c =
    let a = c.args in
    to_z-of_z w64 _ (record { sfits = c.combine.type_inv }) ∙ c.combine.ensures
    ∙ ap (λ ws. by_samples (take a.p ws) (at a.samples)) c.weights.ensures
    ∙ used-law (weights_of a.which) a.p (length-weights a.which a.p c.requires.le_p.1) (at a.samples)
