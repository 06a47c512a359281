-- The words of a line, read one after another, each after one space. A word that is missing is as 0 and leaves the place 0, and from
-- place 0 on every word is missing. Definitions only.
use Rattle.std.specs.Prelude.{◌≡◌, ℕ, ◌+◌, Bool, true, false, cond, List, ltb, eqb, length, get_or, ℤ, pos, Option, Some, None, Result, Ok, Err}
use Rattle.integers.specs.Tests.{◌and◌}
use Rattle.text.specs.Reading.{decimal_at, signed_at, hex_at}

-- a line, and the place up to which it was read
pub record Place : Type 0 where
  pub line : List ℕ
  pub at : ℕ

-- the line ends there
abbrev pub is_over : Place → Bool
is_over p = eqb p.at (length p.line)

-- no word was missing
abbrev pub is_there : Place → Bool
is_there p = ltb 0 p.at

-- a word is missing
abbrev pub lost : Place → Place
lost p = record { line = p.line; at = 0 }

-- ---- reading: what is read from a place on, and the place past it

abbrev pub Reader : Type 0 → Type 0
Reader A = Place → A × Place

-- one after the other
infixl 10 ◌>>=◌
abbrev pub ◌>>=◌ : {A B : Type 0} → Reader A → (A → Reader B) → Reader B
read >>= f = λ p. f (read p).0 (read p).1

infixl 10 ◌>>◌
abbrev pub ◌>>◌ : {A B : Type 0} → Reader A → Reader B → Reader B
read >> other = read >>= (λ _. other)

abbrev pub pure : {A : Type 0} → A → Reader A
pure a = λ p. (a, p)

-- the place up to which the line was read
abbrev pub here : Reader ℕ
here p = (p.at, p)

-- what a function answers that reads, and the place that it leaves: an Err where something was missing, which holds what was read all the same
abbrev pub Reads : {A : Type 0} → A × Place → Bool → Result A A → Place → Type 0
Reads read whole (Ok a) after = (read ≡ (a, after)) × (whole ≡ true)
Reads read whole (Err a) after = (read ≡ (a, after)) × (whole ≡ false)

-- where there is one; what is missing is as `none`
abbrev pub given : {A : Type 0} → A → Option A → Reader A
given none None = λ p. (none, lost p)
given none (Some a) = pure a

-- ---- a word

abbrev pub space : ℕ
space = 32

-- a space; none stands at a line's start
unfoldable pub a_space : Reader (Unit {0})
a_space p = (tt, record { line = p.line; at = cond (ltb 0 p.at and eqb (get_or p.line p.at 0) space) (p.at + 1) 0 })

-- what is read up to a place of the line
abbrev pub up_to : {A : Type 0} → A → Option (A × ℕ) → Reader A
up_to none None = λ p. (none, lost p)
up_to none (Some r) = λ p. (r.0, record { line = p.line; at = r.1 })

-- what is read from a place of the line on, and at place 0 nothing
abbrev pub from : {A : Type 0} → A → (List ℕ → ℕ → Option (A × ℕ)) → Reader A
from {A} none read p = up_to none (elim (is_there p) as (λ _. Option (A × ℕ)) [ true ↦ read p.line p.at | false ↦ None ]) p

unfoldable pub natural : Reader ℕ
natural = do
  a_space
  from 0 decimal_at

unfoldable pub integer : Reader ℤ
integer = do
  a_space
  from (pos 0) signed_at

-- the bits of a float
unfoldable pub bits : Reader ℕ
bits = do
  a_space
  from 0 hex_at
