-- Laws of the times of points.
use mathlib.Core.Path.{◌≡◌, ap}
use mathlib.Core.List.{List, flatten}
use Prim.Native.Nat.{ℕ, ◌+◌, ◌-◌, ◌*◌, ◌≤◌, ◌<◌}
use native.Mathlib.Nat.{add-mul, mul-le-mul_right}
use native.Mathlib.Omega.{arith}
use lib.IntN.{ℤ}
use Rattle.calendar.specs.Calendar.{most_seconds}
use Rattle.message.specs.Message.{line, line_from}

-- no point is later than the last
pub in-time : (first count step i : ℕ) → first + (count - 1) * step ≤ most_seconds → i < count → first + i * step ≤ most_seconds
in-time first count step i h l = omega (arith, h, mul-le-mul_right {m = i} {n = count - 1} step (omega arith))

pub next-seconds : (first i step : ℕ) → first + i * step + step ≡ first + (i + 1) * step
next-seconds first i step = omega (arith, add-mul i 1 step)

-- a line by its time as it was worked out
pub from-seconds : (tick step : ℕ) (points : List ℤ) (first i : ℕ) {seconds : ℕ} → seconds ≡ first + i * step
    → flatten (line tick step points seconds i) ≡ line_from tick step points first i
unfolding line_from
from-seconds tick step points first i e = ap (λ s. flatten (line tick step points s i)) e
