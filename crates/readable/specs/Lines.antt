-- Lines that end in their only newline. Definitions only.
use Rattle.std.specs.Prelude.{◌≡◌, List, [], ◌∷◌, ◌++◌, ℕ}
use Rattle.received.specs.Lines.{newline}
use Rattle.received.specs.Messages.{Every}

abbrev pub Plain : List ℕ → Type 0
Plain body = Every (λ b. ¬ (b ≡ newline)) body

pub record IsLine (line : List ℕ) : Type 0 where
  pub body : List ℕ
  pub plain : Plain body
  pub line-is : line ≡ body ++ (newline ∷ [])
