-- A text cut behind every newline. Definitions only.
use Rattle.std.specs.Prelude.{ℕ, ◌+◌, ◌==◌, cond, List, [], ◌∷◌, eqb, length, drop, Option, position}

abbrev pub newline : ℕ
newline = 10

-- a character in front of the first line
unfoldable pub in_front : ℕ → List (List ℕ) → List (List ℕ)
in_front b [] = (b ∷ []) ∷ []
in_front b (line ∷ lines) = (b ∷ line) ∷ lines

-- each line with the newline that ends it; what stands behind the last newline is a line that none ends
unfoldable pub lines_in : List ℕ → List (List ℕ)
lines_in [] = []
lines_in (b ∷ text) = cond (eqb b newline) ((b ∷ []) ∷ lines_in text) (in_front b (lines_in text))

-- the first of them; none of an empty text
unfoldable pub first_line : List ℕ → List ℕ
first_line [] = []
first_line (b ∷ text) = cond (eqb b newline) (b ∷ []) (b ∷ first_line text)

-- the place past the line at a place
unfoldable pub past_line : List ℕ → ℕ → ℕ
past_line text at = at + length (first_line (drop at text))

-- the place of the first newline
abbrev pub newline_in : List ℕ → Option ℕ
newline_in text = position (λ b. b == newline) text
