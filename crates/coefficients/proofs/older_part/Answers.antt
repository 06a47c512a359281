-- `coefficients::older_part` meets its contract: with a 0 in front the first weight gives nothing.
use mathlib.Core.Path.{◌∙◌, ap}
use borrow.Author.Rules.{sfits_of}
use Prim.Native.Nat.{◌-◌}
use lib.ListN.{take, drop}
use mir.Syntax.{w64}
use mir.Facts.{to_z-of_z}
use Rattle.integers.specs.Differences.{at, by_samples}
use Rattle.coefficients.proofs.Bounds.{bounded}
use Rattle.coefficients.proofs.Next.{older-used}
use Rattle.coefficients.proofs.older_part.Goals as goal

pub combine-requires-clause-row_bound : goal.combine-requires-clause-row_bound
combine-requires-clause-row_bound c = rw c.weights.ensures (bounded c.args.which c.args.p c.requires.le_p)

pub returns : goal.returns
returns c =
    let a = c.args in
    to_z-of_z {w = w64} (sfits_of c.combine.type_inv) ∙ c.combine.ensures
    ∙ ap (λ ws. by_samples (take (a.p - 1) (drop 1 ws)) (at a.samples)) c.weights.ensures
    ∙ older-used a.which a.p c.requires.le_p (at a.samples)
