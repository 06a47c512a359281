-- What stands piece by piece from a place on up to the end of a line, and the array that it fills from its start. Definitions only.
use Rattle.std.specs.Prelude.{ℕ, zero, suc, ◌-◌, true, false, List, [], ◌∷◌, ◌++◌, length, replicate}
use Rattle.script.specs.Words.{Place, Reader, is_over, ◌>>=◌, pure}

-- so many are read at most
unfoldable pub series : {A : Type 0} → Reader A → ℕ → Reader (List A)
series read zero = pure []
series {A} read (suc most) =
    λ p. elim (is_over p) as (λ _. List A × Place) [ true ↦ ([], p) | false ↦ (read >>= (λ x. series read most >>= (λ xs. pure (x ∷ xs)))) p ]

-- an array of so many places, those past the pieces empty
abbrev pub array_of : {A : Type 0} → ℕ → A → List A → List A
array_of most empty pieces = pieces ++ replicate (most - length pieces) empty
