-- What the units of a message are, whatever way they are worked out: the nearest to the exact fraction, and the only number that is.
use Rattle.std.specs.Prelude.{◌≡◌, ◌↔◌, ℕ, ◌*◌, ◌^◌, ◌≤◌, ◌<◌, ℤ, pos, ◌*ℤ◌}
use Rattle.std.proofs.Math.Nat.{one-le-pow}
use Rattle.std.proofs.Common.{mul-le-mul, arith}
use Rattle.integers.specs.Nearest.{Nearest}
use Rattle.integers.proofs.Nearest.{nearest-means}
use Rattle.exact.specs.declared.Exact.{Exact}
use Rattle.exact.specs.Numerator.{D, numerator}
use Rattle.decimal.specs.Units.{position_units, velocity_units}

ticks-in-a-metre : (k : ℕ) → 0 < D * 2 ^ k
ticks-in-a-metre k = omega (arith, one-le-pow k 2 (omega arith))

pub position-means : (k : ℕ) (e : Exact) (n : ℤ) → (position_units k e ≡ n) ↔ Nearest (numerator e *ℤ pos 1000) (D * 2 ^ k) n
unfolding position_units
position-means k e n = nearest-means (numerator e *ℤ pos 1000) (D * 2 ^ k) (ticks-in-a-metre k) n

pub velocity-means : (k step : ℕ) (e : Exact) (n : ℤ) → 1 ≤ step → (velocity_units k step e ≡ n) ↔ Nearest (numerator e *ℤ pos 1000000) (D * 2 ^ k * step) n
unfolding velocity_units
velocity-means k step e n h = nearest-means (numerator e *ℤ pos 1000000) (D * 2 ^ k * step) (omega (arith, mul-le-mul (ticks-in-a-metre k) h)) n
