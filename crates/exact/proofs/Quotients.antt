-- The quotient and the rest of an i64 by D, rounded toward zero: how large they are.
use Prim.Native.Nat.{◌-◌, ◌^◌}
use lib.IntN.{ℤ, pos}
use lib.Signed.{quot_z, rem_z}
use mir.Syntax.{w64}
use mir.Val.{SFits}
use Rattle.integers.specs.Parts.{Sized, integers}
use Rattle.integers.specs.Division.{quotient-parts, remainder-parts}
use Rattle.exact.specs.Numerator.{D}

module _ (n : ℤ) (f : SFits w64 n) where
  pub quotient-sized : Sized (2 ^ 62) (quot_z n (pos D))
  quotient-sized = omega (integers, quotient-parts n D)

  pub quotient_fits : SFits w64 (quot_z n (pos D))
  quotient_fits = omega (integers, quotient-parts n D)

pub rest-sized : (n : ℤ) → Sized (D - 1) (rem_z n (pos D))
rest-sized n = omega (integers, remainder-parts n D)

pub rest-fits : (n : ℤ) → SFits w64 (rem_z n (pos D))
rest-fits n = omega (integers, remainder-parts n D)
