-- How far two points are apart: those that do not agree have a change over its tolerance, and no change of points in range is large.
use mathlib.Core.Path.{◌≡◌}
use mathlib.Core.Bool.{false}
use Prim.Native.Nat.{ℕ, ◌*◌, ◌^◌, ◌≤◌, ◌<◌}
use native.Mathlib.Omega.{arith}
use Rattle.exact.specs.Numerator.{D}
use Rattle.axis.specs.declared.Tolerances.{Tolerances}
use Rattle.axis.specs.Kinds.{Kind, tolerance_of}
use Rattle.axis.specs.Agreement.{change_of}
use Rattle.axis.proofs.Agreement.{change-within}
use Rattle.session.specs.declared.Point.{Point}
use Rattle.session.specs.Coordinates.{motion_on}
use Rattle.session.specs.Apart.{points_agree, point_change}
use Rattle.session.specs.Ready.{PlacedPoint}
use Rattle.session.proofs.Coordinates.{placed_on}
use Rattle.session.proofs.Values.{one-over, size-at-most, change-at-most}

-- the largest changes, one of each kind, are over a tolerance
abbrev pub Over : Tolerances → (Kind → ℕ) → Type 0
Over t size = (kind : Kind) × (tolerance_of kind t * D < size kind)

pub apart-over : (t : Tolerances) (q r : Point) → points_agree t q r ≡ false → Over t (point_change q r)
apart-over t q r f = let (v, e) = one-over q r t f in (v.kind, omega (arith, e, size-at-most q r v))

-- two positions in range are at most 2^53 ticks apart, and so are two velocities
pub apart-within : (q r : Point) → PlacedPoint q → PlacedPoint r → (kind : Kind) → point_change q r kind ≤ 2 ^ 53 * D
unfolding change_of
apart-within q r p s kind = change-at-most q r kind (2 ^ 53 * D) (λ k. change-within (motion_on k q) (motion_on k r) (placed_on q p k) (placed_on r s k) kind)
