-- The version that a text names, and texts that name another than an edition's. Definitions only.
use Rattle.std.specs.Prelude.{◌≡◌, List, [], ◌∷◌, ◌++◌, ℕ}
use Rattle.message.specs.declared.Edition.{Edition}
use Rattle.message.specs.Editions.{version_of}
use Rattle.received.specs.Lines.{newline}
use Rattle.received.specs.Versions.{version_front}
use Rattle.readable.specs.Lines.{Plain}

-- nothing, or a newline first
abbrev pub Ends : List ℕ → Type 0
Ends [] = Unit {0}
Ends (b ∷ rest) = b ≡ newline

-- a version line stands first, and its value is whatever stands before the newline or the end
pub record Names (text value : List ℕ) : Type 0 where
  pub rest : List ℕ
  pub text-is : text ≡ version_front ++ (value ++ rest)
  pub plain : Plain value
  pub ends : Ends rest

-- it is not an edition's
abbrev pub NamesOther : Edition → List ℕ → Type 0
NamesOther e text = (value : List ℕ) × (Names text value × (¬ (value ≡ version_of e)))
