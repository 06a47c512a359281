-- The units of a message's values have at most 16 digits where C-14 takes the values.
use mathlib.Core.Path.{◌≡◌}
use Prim.Native.Nat.{ℕ, ◌+◌, ◌*◌, ◌^◌, ◌<◌, ◌≤◌}
use native.Mathlib.Nat.{mul-le-mul_left, mul-le-mul_right, le_of_mul-le-mul_right, mul-le-mul, one-le-pow}
use native.Mathlib.Omega.{arith}
use lib.IntN.{ℤ, pos, nat_abs, ◌-ℤ◌, ◌*ℤ◌}
use Rattle.integers.specs.Parts.{nat_abs-parts, one-part, difference-parts}
use Rattle.integers.specs.Size.{nat_abs-*ℤ}
use Rattle.integers.specs.Nearest.{nearest_of}
use Rattle.integers.proofs.Nearest.{nearest-of}
use Rattle.exact.specs.declared.Exact.{Exact}
use Rattle.exact.specs.Numerator.{D, numerator, Bounded}
use Rattle.exact.proofs.Bounds.{numerator-within}
use Rattle.decimal.specs.Units.{position_units, velocity_units}

-- how far x is from 0, by how far a is and how far they are apart
apart : (a x : ℤ) → nat_abs x ≤ nat_abs a + nat_abs (a -ℤ x)
apart a x = omega (arith, nat_abs-parts a, nat_abs-parts x, nat_abs-parts (a -ℤ x), one-part (a -ℤ x), one-part a, one-part x, difference-parts a x)

-- the nearest to a / d is at most one more than a bound of it
nearest-small : (a : ℤ) (d h : ℕ) → 0 < d → nat_abs a ≤ h * d → nat_abs (nearest_of a d) ≤ h + 1
nearest-small a d h l b =
    let n = nearest_of a d in
    let e = nat_abs-*ℤ n (pos d) in
    let m : nat_abs n * d ≤ (h + 1) * d = omega (arith, apart a (n *ℤ pos d), e, (nearest-of a d l).near, b) in
    le_of_mul-le-mul_right m l

-- a value times a factor, over a multiple of D
scaled_small : (h f m : ℕ) (e : Exact) → Bounded h e → 1 ≤ m → nat_abs (numerator e *ℤ pos f) ≤ (h * f) * (D * m)
scaled_small h f m e b l =
    let z = numerator e in
    let (low, high) = numerator-within b in
    let s : nat_abs z ≤ h * D = omega (arith, nat_abs-parts z, one-part z) in
    let t : nat_abs z * f ≤ (h * D) * f = mul-le-mul_right f s in
    let u : (h * f) * D * 1 ≤ (h * f) * D * m = mul-le-mul_left ((h * f) * D) l in
    omega (arith, nat_abs-*ℤ z (pos f), t, u)

pub position-small : (tick : ℕ) (e : Exact) → Bounded (2 ^ 52) e → nat_abs (position_units tick e) < 2 ^ 64
unfolding position_units
position-small tick e b =
    let p = one-le-pow tick 2 (omega arith) in
    let s = scaled_small (2 ^ 52) 1000 (2 ^ tick) e b p in
    omega (arith, nearest-small (numerator e *ℤ pos 1000) (D * 2 ^ tick) (2 ^ 52 * 1000) (omega (arith, p)) s)

pub velocity-small : (tick step : ℕ) (e : Exact) → 1 ≤ step → Bounded (2 ^ 40) e → nat_abs (velocity_units tick step e) < 2 ^ 64
unfolding velocity_units
velocity-small tick step e l b =
    let p = one-le-pow tick 2 (omega arith) in
    let q : 1 * 1 ≤ 2 ^ tick * step = mul-le-mul p l in
    let s = scaled_small (2 ^ 40) 1000000 (2 ^ tick * step) e b q in
    let g : D * (2 ^ tick * step) ≡ D * 2 ^ tick * step = omega arith in
    omega (arith, nearest-small (numerator e *ℤ pos 1000000) (D * 2 ^ tick * step) (2 ^ 40 * 1000000) (omega (arith, q)) (omega (arith, s)))
