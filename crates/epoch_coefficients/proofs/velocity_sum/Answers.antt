-- `epoch_coefficients::velocity_sum` meets its contract: the row is light enough for `combine`, and comes to what the differences come to.
use mathlib.Core.Path.{◌∙◌, ap}
use native.Mathlib.Omega.{arith}
use borrow.Author.Rules.{sfits_of}
use lib.ListN.{take}
use mir.Facts.{to_z-of_z}
use Rattle.integers.specs.Differences.{at, by_samples}
use Rattle.coefficients.specs.declared.Formula.TheVariants.{VelocityCorrector}
use Rattle.epoch_coefficients.specs.Formulas.{earlier_velocity}
use Rattle.epoch_coefficients.proofs.Centre.{at-most-9}
use Rattle.epoch_coefficients.proofs.Rows.{bounded, velocity-light, sum-law}
use mir.Syntax.{w64}
use Rattle.epoch_coefficients.proofs.velocity_sum.Goals as goal

pub combine-requires : goal.combine-requires
unfolding earlier_velocity
combine-requires c =
    let h = c.requires in
    record { row_bound = rw c.velocity.ensures (bounded VelocityCorrector velocity-light (at-most-9 h.p_value) h.j_lt_p); n_bound = omega (arith, at-most-9 h.p_value); small = h.small }

pub returns : goal.returns
unfolding earlier_velocity
returns c =
    let a = c.args in
    to_z-of_z {w = w64} (sfits_of c.combine.type_inv) ∙ c.combine.ensures
    ∙ ap (λ ws. by_samples (take a.p ws) (at a.samples)) c.velocity.ensures
    ∙ sum-law VelocityCorrector a.p a.j c.requires.p_value (at a.samples)
