-- `decimal::units::velocity_units` meets its contract.
use mathlib.Core.Path.{sym, ap₂, ◌∙◌}
use Prim.Native.Nat.{ℕ, ◌*◌, ◌^◌, ◌≤◌, ◌<◌}
use native.Mathlib.Nat.{mul_assoc, mul-le-mul}
use native.Mathlib.Omega.{arith}
use mir.Syntax.{w64}
use mir.Val.{SFits}
use mir.Facts.{to_z-of_z}
use borrow.Author.Rules.{rules, sfits_of}
use Rattle.integers.specs.Nearest.{nearest_of}
use Rattle.exact.specs.Numerator.{D, numerator}
use Rattle.decimal.specs.Units.{velocity_units}
use Rattle.decimal.proofs.Rounding.{scaled}
use Rattle.decimal.proofs.Sizes.{times-sized, times-fits, power-most, power-least}
use Rattle.decimal.proofs.units.velocity_units.Goals as goal

-- the ticks of a metre times the seconds of a step
most : (k step : ℕ) → k ≤ 16 → step ≤ 3600 → 2 ^ k * step < 2 ^ 28
most k step h l = omega (arith, mul-le-mul (power-most k h) l)

least : (k step : ℕ) → k ≤ 16 → 1 ≤ step → 0 < 2 ^ k * step
least k step h l = omega (arith, mul-le-mul (power-least k h) l)

pub overflow_mul-whole : goal.overflow_mul-whole
overflow_mul-whole c =
    let f : SFits w64 c.args.e.whole = search rules in
    search (rules, f, times-fits (2 ^ 40) 1000000 c.args.e c.requires.bounded tt)

pub overflow_mul-ticks : goal.overflow_mul-ticks
overflow_mul-ticks c =
    let (h, _, m) = c.requires.k_bound in
    record { fits = rw c.ticks_in_a_metre-ticks.ensures (omega (arith, power-most c.args.k h, most c.args.k c.args.step h m)) }

pub nearest-requires : goal.nearest-requires
nearest-requires c =
    let (h, l, m) = c.requires.k_bound in
    let f : SFits w64 c.args.e.whole = search rules in
    let p = c.ticks_in_a_metre-ticks.ensures in record {
      sized = search (rules, f, times-fits (2 ^ 40) 1000000 c.args.e c.requires.bounded tt, times-sized (2 ^ 40) 1000000 c.args.e c.requires.bounded tt);
      share_bound = (
        omega (arith, c.requires.bounded.small),
        rw p (omega (arith, power-least c.args.k h, least c.args.k c.args.step h l)),
        rw p (omega (arith, power-most c.args.k h, most c.args.k c.args.step h m)),
      );
    }

pub returns : goal.returns
unfolding velocity_units numerator
returns c =
    let a = c.args in
    let f : SFits w64 a.e.whole = search rules in
    let e = simp (to_z-of_z {w = w64} f, to_z-of_z {w = w64} (times-fits (2 ^ 40) 1000000 a.e c.requires.bounded tt), c.ticks_in_a_metre-ticks.ensures) at c.nearest.ensures in
    to_z-of_z {w = w64} (sfits_of {z = c.nearest.result} c.nearest.type_inv)
    ∙ e
    ∙ ap₂ nearest_of (sym (scaled a.e.whole a.e.part D 1000000)) (sym (mul_assoc D (2 ^ a.k) a.step))
