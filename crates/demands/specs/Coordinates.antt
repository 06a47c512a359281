-- What a point and an answer have on one of the three coordinates. Definitions only.
use Rattle.std.specs.Prelude.{ℤ}
use Rattle.exact.specs.Numerator.{numerator}
use Rattle.session.specs.declared.Point.{Point}
use Rattle.steps.specs.declared.ReportedMotion.{ReportedMotion}
use Rattle.steps.specs.declared.ReportedPoint.{ReportedPoint}
use Rattle.session.specs.Coordinates.{Coordinate, on_x, on_y, on_z, motion_on}

abbrev pub reported_on : Coordinate → ReportedPoint → ReportedMotion
reported_on on_x q = q.x
reported_on on_y q = q.y
reported_on on_z q = q.z

-- ---- the exact values, as numerators over D

abbrev pub position_of : Coordinate → Point → ℤ
position_of k q = numerator (motion_on k q).position

abbrev pub velocity_of : Coordinate → Point → ℤ
velocity_of k q = numerator (motion_on k q).velocity

-- beside their reports, in an answer
abbrev pub position_in : Coordinate → ReportedPoint → ℤ
position_in k q = numerator (reported_on k q).position.exact

abbrev pub velocity_in : Coordinate → ReportedPoint → ℤ
velocity_in k q = numerator (reported_on k q).velocity.exact
