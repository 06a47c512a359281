-- What a test that passed or failed says: joined tests, and tests as a function of early returns makes them.
-- `let (p, (q, r)) = simp joined at h in ..` takes a chain `(a and b and c) ≡ true` apart, and `simp joined (p, (q, r))` proves one.
use Rattle.std.specs.Prelude.{◌≡◌, refl, true, eqb, ℤ, pos, negsuc}
use Rattle.std.proofs.Common.{sym, ap, ◌∙◌, SFits, of_z, to_z, to_z-of_z, eqb-true, eq-eqb}
use Rattle.std.proofs.lemmas.Bool.{false≢true}
use Rattle.std.specs.Int.{Width}
use Rattle.integers.specs.Tests.{agree, eqℤ}

pub eqℤ-true : (a b : ℤ) → eqℤ a b ≡ true → a ≡ b
eqℤ-true (pos a) (pos b) e = ap pos (eqb-true a b e)
eqℤ-true (pos a) (negsuc b) e = absurd (false≢true e)
eqℤ-true (negsuc a) (pos b) e = absurd (false≢true e)
eqℤ-true (negsuc a) (negsuc b) e = ap negsuc (eqb-true a b e)

pub eqℤ-refl : (a : ℤ) → eqℤ a a ≡ true
eqℤ-refl (pos n) = eq-eqb n n refl
eqℤ-refl (negsuc n) = eq-eqb n n refl

pub eqℤ-bits : (w : Width) (a b : ℤ) → SFits w a → SFits w b → eqb (of_z w a) (of_z w b) ≡ eqℤ a b
eqℤ-bits w a b f g =
    agree (eqb (of_z w a) (of_z w b)) (eqℤ a b)
    (λ e. ap (eqℤ a) (sym (sym (to_z-of_z f) ∙ ap (to_z w) (eqb-true (of_z w a) (of_z w b) e) ∙ to_z-of_z g)) ∙ eqℤ-refl a)
    (λ e. eq-eqb (of_z w a) (of_z w b) (ap (of_z w) (eqℤ-true a b e)))
