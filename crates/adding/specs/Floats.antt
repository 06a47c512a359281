-- Floats that are whole ticks, and samples added float by float. Definitions only.
use Rattle.std.specs.Prelude.{◌≡◌, Bool, ℕ, ◌≤◌, ℤ, Float}
use Rattle.std.specs.Float.{binary64}
use Rattle.std.specs.Float.Ieee.{add}
use Rattle.std.specs.Float.Ieee.Exact.{HasValue}
use Rattle.ticks.specs.declared.Sample.{Sample}
use Rattle.ticks.specs.Round.{limit, signed}
use Rattle.session.specs.Coordinates.{Coordinate, on_x, on_y, on_z}

-- a float that is just the whole number z, which is within the limit of a sample; minus zero is 0
pub record WholeTicks (x : Float) (z : ℤ) : Type 0 where
  pub negative : Bool
  pub size : ℕ
  pub value : HasValue x negative size 1
  pub number : signed negative size ≡ z
  pub within : size ≤ limit

-- a sample's float, and the sum of two samples as a host forms it, by a float addition on each axis
abbrev pub float_on : Coordinate → Sample → Float
float_on on_x a = a.x
float_on on_y a = a.y
float_on on_z a = a.z

abbrev pub float_sum : Sample → Sample → Sample
float_sum a b = record { x = add binary64 a.x b.x; y = add binary64 a.y b.y; z = add binary64 a.z b.z }
