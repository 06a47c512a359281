-- Numbers after spaces, as a text for each number.
use Rattle.std.specs.Prelude.{◌≡◌, refl, ℕ, ℤ}
use Rattle.std.proofs.Common.{ap}
use mathlib.Core.List.{List, [], ◌∷◌, ◌++◌, flatten, map}
use Rattle.text.specs.Numbers.{numbers, signed, ascii}

-- a number after a space
abbrev pub spaced : ℤ → List ℕ
spaced z = 32 ∷ signed z

pub numbers-row : (zs : List ℤ) → numbers zs ≡ flatten (map spaced zs)
unfolding numbers ascii flatten
numbers-row [] = refl
numbers-row (z ∷ zs) = ap (λ t. 32 ∷ (signed z ++ t)) (numbers-row zs)
