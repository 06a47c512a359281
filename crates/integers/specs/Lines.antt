-- A table of figures, each shown by computing: `(refl, (refl, tt))` proves `All` of two lines.
use Rattle.std.specs.Prelude.{◌≡◌, List, [], ◌∷◌, ◌++◌}

-- what the definitions give, and what the figure says
pub record Line : Type 1 where
  pub Kind : Type 0
  pub gives : Kind
  pub says_so : Kind

abbrev pub line : (A : Type 0) → A → A → Line
line A a b = record { Kind = A; gives = a; says_so = b }

abbrev pub All : List Line → Type 0
All [] = Unit {0}
All (l ∷ rest) = (l.gives ≡ l.says_so) × All rest

-- two tables as one
pub all_of : (xs ys : List Line) → All xs → All ys → All (xs ++ ys)
all_of [] ys p q = q
all_of (x ∷ xs) ys p q = (p.0, all_of xs ys p.1 q)
