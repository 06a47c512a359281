-- Which data lines are kept and which are dropped, by their meaning. Definitions only.
use Rattle.std.specs.Prelude.{◌≡◌, List, [], ◌∷◌, ℕ, suc, ◌≤◌}
use Rattle.received.specs.Data.{Point, line_of}
use Rattle.received.specs.Messages.{IsPoint}

-- a line says a point that is not before an earliest time
pub record Taken (earliest : ℕ) (line : List ℕ) (p : Point) : Type 0 where
  pub is-point : IsPoint p
  pub line-is : line ≡ line_of p
  pub in-turn : earliest ≤ p.seconds

-- lines, of which the first has a number; those of them that are kept, in their order and as they stand; and the numbers of all others.
-- A line is kept exactly where it says a point that is later than the last kept.
pub data Keeps : ℕ → ℕ → List (List ℕ) → List (List ℕ) → List ℕ → Type 0 where
  none : {number earliest : ℕ} → Keeps number earliest [] [] []
  keeps : {number earliest : ℕ} {line : List ℕ} {lines kept : List (List ℕ)} {dropped : List ℕ} (p : Point)
      → Taken earliest line p → Keeps (suc number) (suc p.seconds) lines kept dropped
      → Keeps number earliest (line ∷ lines) (line ∷ kept) dropped
  drops : {number earliest : ℕ} {line : List ℕ} {lines kept : List (List ℕ)} {dropped : List ℕ}
      → ¬ ((p : Point) × Taken earliest line p) → Keeps (suc number) earliest lines kept dropped
      → Keeps number earliest (line ∷ lines) kept (number ∷ dropped)
