-- `message::measures::position_length` meets its contract.
use mathlib.Core.Path.{◌∙◌, ap}
use Prim.Native.Nat.{◌^◌}
use native.Mathlib.Omega.{arith}
use borrow.Author.Rules.{sfits_of}
use mir.Facts.{to_z-of_z}
use Rattle.integers.specs.Tests.{failed, passed}
use Rattle.exact.specs.Numerator.{between}
use Rattle.exact.proofs.Bounds.{between-bounded}
use Rattle.decimal.specs.Units.{position_units}
use Rattle.decimal.specs.Text.{few_digits, fixed_text, position_fits, position_text}
use Rattle.message.specs.Refusals.{position_holds}
use Rattle.message.specs.Measures.{length_if}
use Rattle.message.proofs.Values.{also, nor}
use mir.Syntax.{w64}
use Rattle.std.proofs.lemmas.Bool.{not_from_false, not_from_true}
use Rattle.message.proofs.measures.position_length.Goals as goal

pub returns-then-not-is_position : goal.returns-then-not-is_position
unfolding position_holds
returns-then-not-is_position c =
    let a = c.args in
    (nor (position_fits (position_units a.tick a.e)) (position_text a.tick a.e) (between (2 ^ 52) a.e) (failed c.is_position.ensures (not_from_false _ c.if-not-is_position.true)), omega arith)

pub position_units-requires : goal.position_units-requires
position_units-requires c =
    let a = c.args in
    record { k_bound = c.requires.0; bounded = between-bounded (2 ^ 52) a.e c.requires.1 (passed c.is_position.ensures (not_from_true _ c.if-not-is_position.false)) }

pub returns : goal.returns
unfolding position_holds
returns c =
    let a = c.args in
    let r = c.number_length.ensures in
    let u = to_z-of_z {w = w64} (sfits_of {z = c.position_units.result} c.position_units.type_inv) ∙ c.position_units.ensures in (
      also (position_fits (position_units a.tick a.e)) (position_text a.tick a.e) (between (2 ^ 52) a.e) (passed c.is_position.ensures (not_from_true _ c.if-not-is_position.false))
          (r.0 ∙ ap (λ z. length_if (few_digits 6 z) (fixed_text 6 z)) u),
      r.1,
    )
