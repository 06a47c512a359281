-- `decimal::units::divide` meets its contract.
use Rattle.std.specs.Int.{int_div_euclid, int_rem_euclid}
use mathlib.Core.Path.{◌≡◌, refl, ap, ap₂, ◌∙◌}
use Prim.Native.Nat.{ℕ, suc, ◌-◌, ◌/◌, ◌%◌}
use native.Mathlib.Omega.{arith}
use lib.IntN.{ℤ, pos, negsuc, nat_abs}
use mir.Syntax.{w64}
use mir.Facts.{to_z-of_z, to_z_pos}
use borrow.Author.Rules.{sfits_of}
use Rattle.decimal.specs.declared.Quotient.{Quotient}
use Rattle.decimal.specs.Units.{quotient_of}
use Rattle.decimal.proofs.units.divide.Goals as goal

abbrev made : ℤ → ℕ → Quotient
made q r = record { whole = q; rest = r }

euclid : (a : ℤ) (d : ℕ) → made (int_div_euclid a (pos d)) (nat_abs (int_rem_euclid a (pos d))) ≡ quotient_of a d
unfolding quotient_of
euclid (pos n) d = refl
euclid (negsuc n) d =
    let r : d - 1 - n % d ≡ d - suc (n % d) = omega arith in
    ap (made (negsuc (n / d))) r

pub returns-clause-value : goal.returns-clause-value
returns-clause-value c =
    let a = c.args in
    let whole = simp (to_z-of_z {w = w64} c.ranges.a, to_z_pos w64 {n = a.d} c.requires.1) at c.div_euclid.ensures in
    let rest = simp (to_z-of_z {w = w64} c.ranges.a, to_z_pos w64 {n = a.d} c.requires.1) at c.rem_euclid.ensures.value in
    ap₂ made
    (to_z-of_z {w = w64} (sfits_of {z = c.div_euclid.result} c.div_euclid.type_inv) ∙ whole)
    (ap nat_abs (to_z-of_z {w = w64} (sfits_of {z = c.rem_euclid.result} c.rem_euclid.type_inv) ∙ rest))
    ∙ euclid a.a a.d
