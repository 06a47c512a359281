-- An exact value in the units of a message, rounded to the nearest, a tie to the even one. Definitions only.
-- `Nearest` and `nearest-means` in integers/specs/Nearest.antt say what `nearest_of` is.
use Rattle.std.specs.Prelude.{ℕ, ◌*◌, ◌^◌, ℤ, pos, ◌*ℤ◌}
use Rattle.integers.specs.Nearest.{nearest_of}
use Rattle.integers.specs.Division.{floor_div, floor_mod}
use Rattle.exact.specs.declared.Exact.{Exact}
use Rattle.exact.specs.Numerator.{D, numerator}
use Rattle.decimal.specs.declared.Quotient.{Quotient}

-- Kilometres with six decimals are whole millimetres, and kilometres per second with nine are whole micrometres per second.

-- a position of numerator / D ticks, 2^k of which are a metre, in millimetres
unfoldable pub position_units : ℕ → Exact → ℤ
position_units k e = nearest_of (numerator e *ℤ pos 1000) (D * 2 ^ k)

-- a velocity of numerator / D ticks in `step` seconds, in micrometres per second
unfoldable pub velocity_units : ℕ → ℕ → Exact → ℤ
velocity_units k step e = nearest_of (numerator e *ℤ pos 1000000) (D * 2 ^ k * step)

-- ---- for the way they are worked out: a quotient rounded down, and what is left

unfoldable pub quotient_of : ℤ → ℕ → Quotient
quotient_of a d = record { whole = floor_div a d; rest = floor_mod a d }
