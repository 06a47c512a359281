-- How large the numbers are by which `units` divides and multiplies, and that a machine word holds them.
use mathlib.Core.Path.{◌≡◌}
use Prim.Native.Nat.{ℕ, ◌*◌, ◌%◌, ◌^◌, ◌≤◌}
use native.Mathlib.Nat.{div-le_self, one-le-pow, pow-le-pow_right}
use native.Mathlib.Omega.{arith}
use lib.Dec.{T, leb, leb→le}
use lib.IntN.{ℤ, pos, negsuc, ◌*ℤ◌}
use mir.Syntax.{w64}
use mir.Val.{SFits}
use Rattle.integers.specs.Division.{floor_div}
use Rattle.integers.specs.Parts.{Sized, pos_part, neg_part, integers, neg-parts}
use Rattle.integers.specs.Size.{product-sized, sized-fits}
use Rattle.exact.specs.declared.Exact.{Exact}
use Rattle.exact.specs.Numerator.{Bounded}

-- ---- a quotient is no larger

pub floor-within : (a : ℤ) (d : ℕ) → (pos_part (floor_div a d) ≤ pos_part a) × (neg_part (floor_div a d) ≤ neg_part a)
floor-within (pos n) d = (div-le_self n d, omega arith)
floor-within (negsuc n) d = (omega arith, omega (arith, div-le_self n d))

-- ---- a value times a factor

module _ (h f : ℕ) (e : Exact) (b : Bounded h e) (t : T (leb (h * f) (2 ^ 62))) where
  pub times-sized : Sized (2 ^ 62) (e.whole *ℤ pos f)
  times-sized =
      let s : Sized h e.whole = omega (integers, neg-parts (pos h)) in
      let g : Sized f (pos f) = omega integers in
      let p = product-sized s g in
      let l = leb→le (h * f) (2 ^ 62) t in
      omega integers

  pub times-fits : SFits w64 (e.whole *ℤ pos f)
  times-fits = sized-fits times-sized tt

-- ---- a power of two by a shift

module _ (k : ℕ) (h : k ≤ 16) where
  pub power-most : 2 ^ k ≤ 65536
  power-most = pow-le-pow_right {n = 2} (omega arith) h

  pub power-least : 1 ≤ 2 ^ k
  power-least = one-le-pow k 2 (omega arith)

  pub shifted : 1 * 2 ^ k % 2 ^ 64 ≡ 2 ^ k
  shifted = omega (arith, power-most)
