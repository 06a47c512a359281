-- The two series cut after p terms, times D, so that they are whole. They multiply the differences of the newest sample. `proofs/Cut` has that they are the series.
use Rattle.std.specs.Prelude.{Bool, ◌||◌, List, [], ◌∷◌, ℕ, zero, suc, eqb, ℤ, pos, ◌-ℤ◌}
use Rattle.coefficients.specs.Formulas.{position_corrector, velocity_corrector}

-- times 1 - x, cut where the list ends: each coefficient less the one before it, b before the first
unfoldable pub less_before : ℤ → List ℤ → List ℤ
less_before b [] = []
less_before b (w ∷ ws) = (w -ℤ b) ∷ less_before w ws

-- times (1-x)^j, cut where the list ends
unfoldable pub cut : ℕ → List ℤ → List ℤ
cut zero ws = ws
cut (suc j) ws = less_before (pos 0) (cut j ws)

-- for the position and the velocity j steps before the newest point; with j = 0 they are the corrector's
unfoldable pub earlier_position : ℕ → ℕ → List ℤ
earlier_position j p = cut j (position_corrector p)

unfoldable pub earlier_velocity : ℕ → ℕ → List ℤ
earlier_velocity j p = cut j (velocity_corrector p)

-- of 1 to 9 points, those that have a centre with points on both sides: an odd p other than 1
unfoldable pub has_centre : ℕ → Bool
has_centre p = eqb p 3 || eqb p 5 || eqb p 7 || eqb p 9
