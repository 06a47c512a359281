-- `decimal::units::position_units` meets its contract.
use mathlib.Core.Path.{sym, ap, ◌∙◌}
use Prim.Native.Nat.{◌*◌, ◌^◌}
use native.Mathlib.Omega.{arith}
use mir.Syntax.{w64}
use mir.Val.{SFits}
use mir.Facts.{to_z-of_z}
use borrow.Author.Rules.{rules, sfits_of}
use Rattle.integers.specs.Nearest.{nearest_of}
use Rattle.exact.specs.Numerator.{D, numerator}
use Rattle.decimal.specs.Units.{position_units}
use Rattle.decimal.proofs.Rounding.{scaled}
use Rattle.decimal.proofs.Sizes.{times-sized, times-fits, power-most, power-least}
use Rattle.decimal.proofs.units.position_units.Goals as goal

pub overflow_mul-whole : goal.overflow_mul-whole
overflow_mul-whole c =
    let f : SFits w64 c.args.e.whole = search rules in
    search (rules, f, times-fits (2 ^ 52) 1000 c.args.e c.requires.bounded tt)

pub nearest-requires : goal.nearest-requires
nearest-requires c =
    let f : SFits w64 c.args.e.whole = search rules in
    let p = c.ticks_in_a_metre.ensures in record { sized = search (rules, f, times-fits (2 ^ 52) 1000 c.args.e c.requires.bounded tt, times-sized (2 ^ 52) 1000 c.args.e c.requires.bounded tt); share_bound = (omega (arith, c.requires.bounded.small), omega (arith, p, power-least c.args.k c.requires.k_bound), omega (arith, p, power-most c.args.k c.requires.k_bound)) }

pub returns : goal.returns
unfolding position_units numerator
returns c =
    let a = c.args in
    let f : SFits w64 a.e.whole = search rules in
    let e = simp (to_z-of_z {w = w64} f, to_z-of_z {w = w64} (times-fits (2 ^ 52) 1000 a.e c.requires.bounded tt), c.ticks_in_a_metre.ensures) at c.nearest.ensures in
    to_z-of_z {w = w64} (sfits_of {z = c.nearest.result} c.nearest.type_inv)
    ∙ e
    ∙ ap (λ z. nearest_of z (D * 2 ^ a.k)) (sym (scaled a.e.whole a.e.part D 1000))
