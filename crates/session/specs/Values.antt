-- The six values of a point: one list in one order, which every rule about all of them goes by. Definitions only.
use Rattle.std.specs.Prelude.{ℕ, max, Bool, true, List, [], ◌∷◌, ◌++◌, ℤ, nat_abs}
use Rattle.integers.specs.Tests.{◌and◌}
use Rattle.exact.specs.declared.Exact.{Exact}
use Rattle.exact.specs.Numerator.{same_exact}
use Rattle.axis.specs.declared.Tolerances.{Tolerances}
use Rattle.axis.specs.Kinds.{Kind, of_position, of_velocity, value_of, tolerance_of, value_in_range, moved_by, within}
use Rattle.session.specs.declared.Point.{Point}
use Rattle.session.specs.Coordinates.{Coordinate, on_x, on_y, on_z, motion_on}

-- which of the six: a position or a velocity, and on which coordinate
pub record Value : Type 0 where
  pub kind : Kind
  pub coordinate : Coordinate

abbrev pub value : Kind → Coordinate → Value
value kind k = record { kind = kind; coordinate = k }

-- the three values of a kind
abbrev pub values_of : Kind → List Value
values_of kind = value kind on_x ∷ value kind on_y ∷ value kind on_z ∷ []

-- the six, in order: the positions and then the velocities
abbrev pub six : List Value
six = values_of of_position ++ values_of of_velocity

abbrev pub value_at : Value → Point → Exact
value_at v q = value_of v.kind (motion_on v.coordinate q)

-- ---- over a list of values: a test of each, and the largest size

abbrev pub every : (Value → Bool) → List Value → Bool
every test [] = true
every test (v ∷ rest) = test v and every test rest

abbrev pub largest_of : (Value → ℕ) → List Value → ℕ
largest_of size [] = 0
largest_of size (v ∷ rest) = max (size v) (largest_of size rest)

-- a test of each of the six
abbrev pub every_value : (Value → Bool) → Bool
every_value test = every test six

-- ---- one value of a point

-- it is in the range of its kind
abbrev pub in_range_at : Point → Value → Bool
in_range_at q v = value_in_range v.kind (value_at v q)

-- it is the same at two points
abbrev pub same_at : Point → Point → Value → Bool
same_at q r v = same_exact (value_at v q) (value_at v r)

-- it moved by at most the tolerance of its kind
abbrev pub within_at : Tolerances → Point → Point → Value → Bool
within_at t q before v = within (tolerance_of v.kind t) (value_at v q) (value_at v before)

-- by how much it moved, as a numerator over D: now less before
abbrev pub change_at : Point → Point → Value → ℤ
change_at q before v = moved_by (value_at v q) (value_at v before)

-- the size of that
abbrev pub size_at : Point → Point → Value → ℕ
size_at q before v = nat_abs (change_at q before v)
