-- `message::measures::velocity_length` meets its contract.
use mathlib.Core.Path.{◌∙◌, ap}
use Prim.Native.Nat.{◌^◌}
use native.Mathlib.Omega.{arith}
use borrow.Author.Rules.{sfits_of}
use mir.Facts.{to_z-of_z}
use Rattle.integers.specs.Tests.{failed, passed}
use Rattle.exact.specs.Numerator.{between}
use Rattle.exact.proofs.Bounds.{between-bounded}
use Rattle.decimal.specs.Units.{velocity_units}
use Rattle.decimal.specs.Text.{few_digits, fixed_text, velocity_fits, velocity_text}
use Rattle.message.specs.Refusals.{velocity_holds}
use Rattle.message.specs.Measures.{length_if}
use Rattle.message.proofs.Formed.{settings}
use Rattle.message.proofs.Values.{also, nor}
use mir.Syntax.{w64}
use Rattle.std.proofs.lemmas.Bool.{not_from_false, not_from_true}
use Rattle.message.proofs.measures.velocity_length.Goals as goal

pub returns-then-not-is_velocity : goal.returns-then-not-is_velocity
unfolding velocity_holds
returns-then-not-is_velocity c =
    let a = c.args in
    (nor (velocity_fits (velocity_units a.tick a.step a.e)) (velocity_text a.tick a.step a.e) (between (2 ^ 40) a.e) (failed c.is_velocity.ensures (not_from_false _ c.if-not-is_velocity.true)), omega arith)

pub velocity_units-requires : goal.velocity_units-requires
velocity_units-requires c =
    let a = c.args in
    record { k_bound = settings c.requires.0; bounded = between-bounded (2 ^ 40) a.e c.requires.1 (passed c.is_velocity.ensures (not_from_true _ c.if-not-is_velocity.false)) }

pub returns : goal.returns
unfolding velocity_holds
returns c =
    let a = c.args in
    let r = c.number_length.ensures in
    let u = to_z-of_z {w = w64} (sfits_of {z = c.velocity_units.result} c.velocity_units.type_inv) ∙ c.velocity_units.ensures in (
      also (velocity_fits (velocity_units a.tick a.step a.e)) (velocity_text a.tick a.step a.e) (between (2 ^ 40) a.e) (passed c.is_velocity.ensures (not_from_true _ c.if-not-is_velocity.false))
          (r.0 ∙ ap (λ z. length_if (few_digits 9 z) (fixed_text 9 z)) u),
      r.1,
    )
