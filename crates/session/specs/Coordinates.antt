-- The three coordinates, and what a record, a point and a sample have on each: a statement over a coordinate is one about each. Definitions only.
use Rattle.std.specs.Prelude.{Bool, ℤ}
use Rattle.integers.specs.Tests.{◌and◌}
use Rattle.ticks.specs.declared.WholeSample.{WholeSample}
use Rattle.axis.specs.declared.Motion.{Motion}
use Rattle.axis.specs.declared.Axis.{Axis}
use Rattle.session.specs.declared.Point.{Point}
use Rattle.session.specs.declared.Session.{Session}

pub data Coordinate : Type 0 where
  on_x : Coordinate
  on_y : Coordinate
  on_z : Coordinate

-- a test of all three, x first
abbrev pub every_coordinate : (Coordinate → Bool) → Bool
every_coordinate test = test on_x and test on_y and test on_z

abbrev pub axis_of : Coordinate → Session → Axis
axis_of on_x s = s.x
axis_of on_y s = s.y
axis_of on_z s = s.z

abbrev pub motion_on : Coordinate → Point → Motion
motion_on on_x q = q.x
motion_on on_y q = q.y
motion_on on_z q = q.z

abbrev pub ticks_on : Coordinate → WholeSample → ℤ
ticks_on on_x w = w.x
ticks_on on_y w = w.y
ticks_on on_z w = w.z
