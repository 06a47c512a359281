-- Power series in x by their coefficients, in exact fractions, and the two that give the points before the newest.
-- L is -log(1-x). x/L is the series c, and its square the series l: `proofs/Tied`.
use Rattle.std.specs.Prelude.{ℕ, zero, suc, ◌-◌, pos}
use Rattle.coefficients.specs.Fraction.{Fraction, ◌over◌, ◌⊕◌, ◌⊗◌, negate}
use Rattle.coefficients.specs.Rules.{c, total}

abbrev pub Series : Type 0
Series = ℕ → Fraction

-- 1, and 1 - x
abbrev pub one : Series
one zero = pos 1 over 1
one (suc i) = pos 0 over 1

abbrev pub one_less_x : Series
one_less_x zero = pos 1 over 1
one_less_x (suc zero) = negate (pos 1 over 1)
one_less_x (suc (suc i)) = pos 0 over 1

-- L/x = 1 + x/2 + x²/3 + ..
abbrev pub log_over_x : Series
log_over_x i = pos 1 over suc i

-- f - g, f g, and f/x where f has no term without x
abbrev pub less : Series → Series → Series
less f g i = f i ⊕ negate (g i)

abbrev pub product : Series → Series → Series
product f g i = total (λ k. f k ⊗ g (i - k)) i

abbrev pub over_x : Series → Series
over_x f i = f (suc i)

-- (1-x)^j f
unfoldable pub lessened : ℕ → Series → Series
lessened zero f = f
lessened (suc j) f = product one_less_x (lessened j f)

-- (1-x)^j ((x/L)² - (1-x)) / x²
unfoldable pub position_series : ℕ → Series
position_series j = lessened j (over_x (over_x (less (product c c) one_less_x)))

-- (1-x)^j (x/L - 1) / x
unfoldable pub velocity_series : ℕ → Series
velocity_series j = lessened j (over_x (less c one))
