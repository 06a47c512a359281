-- The number with a fixed count of decimals that stands at a place of a text, and the place past it. Definitions only.
use Rattle.std.specs.Prelude.{Option, Some, None, ℕ, ℤ, zero, suc, ◌+◌, ◌-◌, ◌*◌, ◌^◌, cond, List, [], ◌∷◌, ltb, eqb, drop, get_or}
use Rattle.integers.specs.Tests.{◌and◌}
use Rattle.text.specs.Numbers.{digit}
use Rattle.text.specs.Reading.{is_digit, decimal_at, below, not_below}

-- a number so far, which ends at a place, and so many digits more; what has 19 digits is not read on, since no i64 has 20
unfoldable pub more_digits : ℕ → List ℕ → ℕ → ℕ → Option (ℕ × ℕ)
more_digits zero text n at = Some (n, at)
more_digits (suc k) [] n at = None
more_digits (suc k) (b ∷ text) n at =
    cond (is_digit b and ltb n (10 ^ 18)) (more_digits k text (n * 10 + (b - digit 0)) (at + 1)) None

abbrev point : ℕ
point = 46

abbrev minus : ℕ
minus = 45

-- a whole part, which ends at a place, and a point with the decimals after it
unfoldable pub after_whole : ℕ → List ℕ → ℕ → ℕ → Option (ℕ × ℕ)
after_whole places [] n at = None
after_whole places (b ∷ text) n at = cond (eqb b point) (more_digits places text n (at + 1)) None

unfoldable pub with_decimals : ℕ → List ℕ → Option (ℕ × ℕ) → Option (ℕ × ℕ)
with_decimals places s None = None
with_decimals places s (Some (n, at)) = after_whole places (drop at s) n at

-- without a sign
unfoldable pub size_at : ℕ → List ℕ → ℕ → Option (ℕ × ℕ)
size_at places s at = with_decimals places s (decimal_at s at)

-- a number below 0 has a sign, and 0 has none
unfoldable pub fixed_at : ℕ → List ℕ → ℕ → Option (ℤ × ℕ)
fixed_at places s at = cond (eqb (get_or s at 0) minus) (below (size_at places s (at + 1))) (not_below (size_at places s at))
