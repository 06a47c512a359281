-- Tests made in order: the number that they give where the earlier ones failed, and what each said where no number or a given one came of it.
use Rattle.std.specs.Prelude.{ℕ, ◌≡◌, Bool, true, false, not, List, [], ◌∷◌, ◌++◌, eqb}
use Rattle.std.proofs.Math.Path.{refl}
use Rattle.std.proofs.Common.{sym}
use Rattle.std.proofs.lemmas.Bool.{eqb-false}
use Rattle.integers.specs.Tests.{joined}
use Rattle.rules.specs.Rules.{NotZero, first_of, Gives}
use Rattle.rules.specs.Tests.{numbered, Beside, Clear}

-- ---- the number: of a test that is true, and past one that is false

module _ {t : Bool} {n : ℕ} {rest : List (Bool × ℕ)} where
  pub hit : t ≡ true → Gives ((t, n) ∷ rest) n
  unfolding first_of
  hit e = record { first = rw e refl }

  pub past : {m : ℕ} → t ≡ false → Gives rest m → Gives ((t, n) ∷ rest) m
  unfolding first_of
  past e f = record { first = rw e f.first }

  -- where the rule is that a test fails
  pub hit-not : t ≡ false → Gives ((not t, n) ∷ rest) n
  unfolding first_of
  hit-not e = record { first = rw e refl }

  pub past-not : {m : ℕ} → t ≡ true → Gives rest m → Gives ((not t, n) ∷ rest) m
  unfolding first_of
  past-not e f = record { first = rw e f.first }

pub none-given : Gives [] 0
unfolding first_of
none-given = record { first = refl }

-- the number itself
pub given : (xs : List (Bool × ℕ)) → Gives xs (first_of xs)
given xs = record { first = refl }

-- the first ones give a number, or none, and then the others give theirs
pub first-before : (xs ys : List (Bool × ℕ)) (n : ℕ) → NotZero n → first_of xs ≡ n → Gives (xs ++ ys) n
unfolding first_of
first-before [] ys n f e = absurd (f (sym e))
first-before ((true, m) ∷ xs) ys n f e = record { first = e }
first-before ((false, m) ∷ xs) ys n f e = record { first = (first-before xs ys n f e).first }

pub first-after : (xs ys : List (Bool × ℕ)) {n : ℕ} → numbered xs ≡ true → first_of xs ≡ 0 → Gives ys n → Gives (xs ++ ys) n
unfolding first_of
first-after [] ys l e g = g
first-after ((true, m) ∷ xs) ys l e g = let (f, _) = simp joined at l in absurd (eqb-false m 0 f e)
first-after ((false, m) ∷ xs) ys l e g = let (_, k) = simp joined at l in record { first = (first-after xs ys k e g).first }

-- ---- what a number says of the tests

-- another number than the first test's: that test was false
pub not_first : (t : Bool) (m n : ℕ) (rest : List (Bool × ℕ)) → first_of ((t, m) ∷ rest) ≡ n → (m ≡ n → ⊥) → t ≡ false
unfolding first_of
not_first true m n rest e f = absurd (f e)
not_first false m n rest e f = refl

pub clear : (n : ℕ) (xs : List (Bool × ℕ)) → numbered xs ≡ true → first_of xs ≡ 0 → Clear n xs
unfolding first_of
clear n [] l e = tt
clear n ((true, m) ∷ rest) l e = let (f, _) = simp joined at l in absurd (eqb-false m 0 f e)
clear n ((false, m) ∷ rest) l e = let (_, g) = simp joined at l in by (eqb m n) (clear n rest g e)
  where
    by : (t : Bool) → Clear n rest → Beside t (false ≡ false) (Clear n rest)
    by true h = (refl, h)
    by false h = h
