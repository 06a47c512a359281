-- The two kinds of value that a motion has, and what each is held to: a statement over a kind is one about each. Definitions only.
use Rattle.std.specs.Prelude.{ℕ, ◌*◌, ◌^◌, Bool, leb, ℤ, nat_abs, ◌-ℤ◌}
use Rattle.integers.specs.Tests.{◌and◌}
use Rattle.exact.specs.declared.Exact.{Exact}
use Rattle.exact.specs.Numerator.{D, numerator, between}
use Rattle.axis.specs.declared.Motion.{Motion}
use Rattle.axis.specs.declared.Tolerances.{Tolerances}

pub data Kind : Type 0 where
  of_position : Kind
  of_velocity : Kind

-- a test of both, the position first
abbrev pub both_kinds : (Kind → Bool) → Bool
both_kinds test = test of_position and test of_velocity

abbrev pub value_of : Kind → Motion → Exact
value_of of_position m = m.position
value_of of_velocity m = m.velocity

-- the motion that has these values
abbrev pub motion_by : (Kind → Exact) → Motion
motion_by value = record { position = value of_position; velocity = value of_velocity }

-- how far a value may move and still agree, in ticks
abbrev pub tolerance_of : Kind → Tolerances → ℕ
tolerance_of of_position t = t.position
tolerance_of of_velocity t = t.velocity

-- how far from 0 a value may be, in ticks
abbrev pub range_of : Kind → ℕ
range_of of_position = 2 ^ 52
range_of of_velocity = 2 ^ 40

-- ---- one value of a kind

-- at least the negative of its range, and below its range
abbrev pub value_in_range : Kind → Exact → Bool
value_in_range kind e = between (range_of kind) e

-- by how much it moved, as a numerator over D: now less before
abbrev pub moved_by : Exact → Exact → ℤ
moved_by e before = numerator e -ℤ numerator before

-- the size of that
abbrev pub apart_by : Exact → Exact → ℕ
apart_by e before = nat_abs (moved_by e before)

-- it moved by at most a tolerance, in ticks
abbrev pub within : ℕ → Exact → Exact → Bool
within tolerance e before = leb (apart_by e before) (tolerance * D)
