-- Tests made in order: what each said where no number came of them. The laws are in `proofs/Tests`.
use Rattle.std.specs.Prelude.{ℕ, ◌≡◌, Bool, true, false, not, List, [], ◌∷◌, eqb}
use Rattle.integers.specs.Tests.{◌and◌}

-- ---- tests, and then others

-- no number is 0
abbrev pub numbered : List (Bool × ℕ) → Bool
numbered [] = true
numbered ((t, m) ∷ rest) = not (eqb m 0) and numbered rest

-- no number: every test beside n was false; at a list of the code this computes to those tests
abbrev pub Beside : Bool → Type 0 → Type 0 → Type 0
Beside true A B = A × B
Beside false A B = B

abbrev pub Clear : ℕ → List (Bool × ℕ) → Type 0
Clear n [] = Unit {0}
Clear n ((t, m) ∷ rest) = Beside (eqb m n) (t ≡ false) (Clear n rest)
