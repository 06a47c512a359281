-- What the arithmetic of an axis asks, so that nothing leaves its type. An axis that holds has it.
use Rattle.std.specs.Prelude.{◌≡◌, ℕ, ◌≤◌, ◌<◌, ◌^◌}
use Rattle.exact.specs.Numerator.{D, Bounded}
use Rattle.coefficients.specs.Formulas.{Small}
use Rattle.axis.specs.declared.Axis.{Axis}
use Rattle.axis.specs.declared.Motion.{Motion}
use Rattle.axis.specs.declared.Tolerances.{Tolerances}
use Rattle.axis.specs.Formulas.{older_motion}
use Rattle.axis.specs.Kinds.{of_position, of_velocity, range_of}

pub record Ready (p : ℕ) (a : Axis) : Type 0 where
  pub some : (1 ≤ p) × (p ≤ 9)
  pub first : Bounded (2 ^ 42) a.first
  pub second : Bounded (2 ^ 54) a.second
  pub small : Small a.samples

-- the held sum is true
pub record Held (p : ℕ) (a : Axis) : Type 0 where
  pub older : a.older ≡ older_motion p a.samples

-- a position and a velocity in range
pub record Placed (m : Motion) : Type 0 where
  pub position : Bounded (range_of of_position) m.position
  pub velocity : Bounded (range_of of_velocity) m.velocity

-- both remainders are from 0 to D-1
pub record Proper (m : Motion) : Type 0 where
  pub position : m.position.part < D
  pub velocity : m.velocity.part < D

-- both tolerances keep to their numbers
pub record Tolerable (t : Tolerances) : Type 0 where
  pub position : t.position ≤ 1048576
  pub velocity : t.velocity ≤ 1048576
