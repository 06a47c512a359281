-- Two motions: those that are the same are equal, their changes have reports, and sizes as exact values.
use mathlib.Core.Path.{◌≡◌, refl, ap}
use mathlib.Core.Bool.{true}
use Prim.Native.Nat.{ℕ, ◌*◌, ◌^◌, ◌≤◌, max}
use native.Mathlib.Omega.{arith}
use lib.IntN.{nat_abs, pos, ◌-ℤ◌}
use Rattle.integers.specs.Tests.{joined}
use Rattle.integers.specs.Parts.{nat_abs-parts, one-part, difference-parts}
use Rattle.exact.specs.Numerator.{D, exact_of, numerator, Bounded}
use Rattle.exact.proofs.Laws.{part-below, same_true, same_refl, larger-size}
use Rattle.exact.proofs.Bounds.{numerator-within, widen}
use Rattle.axis.specs.declared.Motion.{Motion}
use Rattle.axis.specs.Formulas.{motion_of, still}
use Rattle.axis.specs.Estimates.{same_motion}
use Rattle.axis.specs.Kinds.{Kind, of_position, of_velocity, value_of}
use Rattle.axis.specs.Agreement.{change_of, sizes, larger_motion}
use Rattle.axis.specs.Ready.{Placed, Proper}

-- ---- equal motions

pub motions-same : (m n : Motion) → same_motion m n ≡ true → m ≡ n
unfolding same_motion
motions-same m n t =
    let (p, v) = simp joined at t in
    λ i. record { position = same_true m.position n.position p i; velocity = same_true m.velocity n.velocity v i }

pub motions-refl : (m : Motion) → same_motion m m ≡ true
unfolding same_motion
motions-refl m = simp joined (same_refl m.position, same_refl m.velocity)

-- ---- changes

-- a position and a velocity in range are at most 2^52 ticks from 0
placed-value : (m : Motion) → Placed m → (kind : Kind) → Bounded (2 ^ 52) (value_of kind m)
placed-value m p of_position = p.position
placed-value m p of_velocity = widen (2 ^ 52) p.velocity tt

pub change-within : (m n : Motion) → Placed m → Placed n → (kind : Kind) → change_of m n kind ≤ 2 ^ 53 * D
unfolding change_of
change-within m n p q kind =
    let e = numerator (value_of kind m) in
    let f = numerator (value_of kind n) in
    let d = e -ℤ f in
    omega (arith, numerator-within (placed-value m p kind), numerator-within (placed-value n q kind), difference-parts e f, nat_abs-parts d, one-part d)

-- a size of at most 2^53 ticks has a report
pub size-reports : (n : ℕ) → n ≤ 2 ^ 53 * D → nat_abs (exact_of (pos n)).whole ≤ 2 ^ 53
unfolding exact_of
size-reports n h = omega arith

-- ---- sizes as exact values

pub sizes-proper : (size : Kind → ℕ) → Proper (sizes size)
unfolding sizes
sizes-proper size = record { position = part-below (pos (size of_position)); velocity = part-below (pos (size of_velocity)) }

-- no change of either kind
pub still-sizes : still ≡ sizes (λ kind. 0)
unfolding still sizes motion_of
still-sizes = refl

-- the larger of two sizes, as a caller knows it: by a contract
pub larger-sizes : (f g : Kind → ℕ) {r a b : Motion} → r ≡ larger_motion a b → a ≡ sizes f → b ≡ sizes g → r ≡ sizes (λ kind. max (f kind) (g kind))
unfolding larger_motion sizes
larger-sizes f g p a b =
    λ i. record {
      position = larger-size (f of_position) (g of_position) (ap (λ m. m.position) p) (ap (λ m. m.position) a) (ap (λ m. m.position) b) i;
      velocity = larger-size (f of_velocity) (g of_velocity) (ap (λ m. m.velocity) p) (ap (λ m. m.velocity) a) (ap (λ m. m.velocity) b) i;
    }
