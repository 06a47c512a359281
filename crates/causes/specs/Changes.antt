-- What the changes of a first correction are, in fractions of a tick: D, the denominator of every exact value, and the coefficients of the rules. Definitions only.
use Rattle.std.specs.Prelude.{ℕ, ◌+◌, ℤ, ◌-ℤ◌}
use Rattle.exact.specs.Numerator.{D}
use Rattle.coefficients.specs.Fraction.{◌over◌, ◌⊗◌, ◌≐◌}
use Rattle.coefficients.specs.Rules as Rule
use Rattle.session.specs.declared.Point.{Point}
use Rattle.session.specs.Coordinates.{Coordinate}
use Rattle.demands.specs.Coordinates.{position_of, velocity_of}

-- on a coordinate, from one point to another, with p back points and the newest sample's p-th difference d
pub record ChangesBy (p : ℕ) (d : ℤ) (k : Coordinate) (before now : Point) : Type 0 where
  pub position : (position_of k now -ℤ position_of k before) over D ≐ Rule.s (p + 1) ⊗ d over 1
  pub velocity : (velocity_of k now -ℤ velocity_of k before) over D ≐ Rule.g p ⊗ d over 1
