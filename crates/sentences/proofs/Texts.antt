-- The texts that a test decides: a sign, the decimals, a unit, and whether anything is said.
use mathlib.Core.Path.{◌≡◌}
use mathlib.Core.Bool.{true, false}
use mathlib.Core.List.{[], ◌∷◌}
use Prim.Native.Nat.{ℕ, ◌<◌, ◌≤◌}
use borrow.Author.Tests.{eq-eqb, ne_eqb, lt-ltb, le-ltb}
use lib.IntN.{ℤ, pos}
use lib.Signed.{lt_z}
use Rattle.session.specs.declared.Session.{Session}
use Rattle.reasons.specs.declared.Explanation.{Explanation}
use Rattle.text.specs.Numbers.{ascii}
use Rattle.sentences.specs.Decimals.{ten_decimals, shortened, sign_text, rest_text}
use Rattle.sentences.specs.Sentences.{unit_text, is_accepted, told, sentence}

pub minus : (z : ℤ) → lt_z z (pos 0) ≡ true → sign_text z ≡ 45 ∷ []
unfolding sign_text ascii
minus z t = rw t

pub no_sign : (z : ℤ) → lt_z z (pos 0) ≡ false → sign_text z ≡ []
unfolding sign_text
no_sign z t = rw t

pub no-decimals : (r : ℕ) → r ≡ 0 → rest_text r ≡ []
unfolding rest_text
no-decimals r e = rw (eq-eqb r 0 e)

pub decimals : (r : ℕ) → (r ≡ 0 → ⊥) → rest_text r ≡ 46 ∷ shortened 10 (ten_decimals r)
unfolding rest_text ascii
decimals r n = rw (ne_eqb r 0 n)

pub of-velocity : (n : ℕ) → 3 < n → unit_text n ≡ ascii " ticks per step"
unfolding unit_text
of-velocity n l = rw (lt-ltb 3 n l)

pub of-position : (n : ℕ) → n ≤ 3 → unit_text n ≡ ascii " ticks"
unfolding unit_text
of-position n l = rw (le-ltb 3 n l)

module _ (line : ℕ) (s : Session) (e : Explanation) where
  pub nothing_said : is_accepted e ≡ true → sentence line s e ≡ []
  unfolding sentence
  nothing_said t = rw t

  pub all_said : is_accepted e ≡ false → sentence line s e ≡ told line s e
  unfolding sentence
  all_said t = rw t
