-- What holds on every coordinate, and what the records and the points that the calls make have on each.
use mathlib.Core.Path.{◌≡◌, refl}
use mathlib.Core.Logic.{◌↔◌}
use mathlib.Core.Bool.{Bool, true}
use Prim.Native.Nat.{ℕ}
use Rattle.integers.specs.Tests.{joined}
use Rattle.ticks.specs.declared.WholeSample.{WholeSample}
use Rattle.axis.specs.Formulas.{still, present_motion, predicted_motion, corrected_motion, advanced_axis}
use Rattle.axis.specs.Estimates.{estimating}
use Rattle.axis.specs.Ready.{Placed}
use Rattle.session.specs.declared.Point.{Point}
use Rattle.session.specs.declared.Session.{Session}
use Rattle.session.specs.Coordinates.{Coordinate, on_x, on_y, on_z, every_coordinate, axis_of, motion_on, ticks_on}
use Rattle.session.specs.Moves.{present_point, estimate_of, predicted_point, corrected_point, settled_again, awaiting_at, accepted_at}
use Rattle.session.specs.Ready.{PlacedPoint}

-- what holds on x, on y and on z holds on each
pub on-each : (P : Coordinate → Type 0) → P on_x → P on_y → P on_z → (k : Coordinate) → P k
on-each P x y z on_x = x
on-each P x y z on_y = y
on-each P x y z on_z = z

pub coordinates-iff : (test : Coordinate → Bool) → (every_coordinate test ≡ true) ↔ ((k : Coordinate) → test k ≡ true)
coordinates-iff test = ((λ h. let (x, (y, z)) = simp joined at h in on-each _ x y z), (λ h. simp joined (h on_x, (h on_y, h on_z))))

-- ---- points

-- a point is what it is on each coordinate
pub point-by : (q r : Point) → ((k : Coordinate) → motion_on k q ≡ motion_on k r) → q ≡ r
point-by q r h = λ i. record { x = h on_x i; y = h on_y i; z = h on_z i }

pub placed_on : (q : Point) → PlacedPoint q → (k : Coordinate) → Placed (motion_on k q)
placed_on q p = on-each _ p.on-x p.on-y p.on-z

module _ (s : Session) where
  pub present-on : (k : Coordinate) → motion_on k (present_point s) ≡ present_motion s.points (axis_of k s)
  unfolding present_point
  present-on = on-each _ refl refl refl

  pub estimate-on : (k : Coordinate) → motion_on k (estimate_of s) ≡ (axis_of k s).estimate
  unfolding estimate_of
  estimate-on = on-each _ refl refl refl

  pub predicted-on : (k : Coordinate) → motion_on k (predicted_point s) ≡ predicted_motion s.points (axis_of k s)
  unfolding predicted_point
  predicted-on = on-each _ refl refl refl

  pub corrected-on : (w : WholeSample) (k : Coordinate) → motion_on k (corrected_point s w) ≡ corrected_motion s.points (axis_of k s) (ticks_on k w)
  unfolding corrected_point
  corrected-on w = on-each _ refl refl refl

  -- ---- records

  pub settled-axis : (k : Coordinate) → axis_of k (settled_again s) ≡ estimating (axis_of k s) still
  unfolding settled_again
  settled-axis = on-each _ refl refl refl

  pub awaiting-axis : (n : ℕ) (q : Point) (k : Coordinate) → axis_of k (awaiting_at s n q) ≡ estimating (axis_of k s) (motion_on k q)
  unfolding awaiting_at
  awaiting-axis n q = on-each _ refl refl refl

  pub accepted-axis : (w : WholeSample) (k : Coordinate) → axis_of k (accepted_at s w) ≡ advanced_axis s.points (axis_of k s) (ticks_on k w)
  unfolding accepted_at
  accepted-axis w = on-each _ refl refl refl
