-- The numbers of points that have a centre: 3, 5, 7 and 9.
use mathlib.Core.Path.{◌≡◌, refl, sym, subst}
use mathlib.Core.Bool.{Bool, true, false, ◌||◌}
use Prim.Native.Nat.{ℕ, ◌≤◌}
use borrow.Author.Tests.{eqb-true}
use lib.Dec.{eqb, lit≤}
use Rattle.epoch_coefficients.specs.Formulas.{has_centre}

-- what holds where each of two tests passes holds where one of them does
either_way : {A : Type 0} (t u : Bool) → (t ≡ true → A) → (u ≡ true → A) → (t || u) ≡ true → A
either_way true u f g e = f refl
either_way false u f g e = g e

-- what holds of 3, 5, 7 and 9 holds of every p that has a centre
pub of-each : (P : ℕ → Type 0) → P 3 → P 5 → P 7 → P 9 → (p : ℕ) → has_centre p ≡ true → P p
unfolding has_centre
of-each P a b d e p =
    either_way (eqb p 3 || eqb p 5 || eqb p 7) (eqb p 9)
    (either_way (eqb p 3 || eqb p 5) (eqb p 7) (either_way (eqb p 3) (eqb p 5) (is 3 a) (is 5 b)) (is 7 d))
    (is 9 e)
  where
    is : (k : ℕ) → P k → eqb p k ≡ true → P p
    is k h t = subst P (sym (eqb-true p k t)) h

module _ {p : ℕ} (h : has_centre p ≡ true) where
  pub at-least-3 : 3 ≤ p
  at-least-3 = of-each (λ p. 3 ≤ p) (lit≤ tt) (lit≤ tt) (lit≤ tt) (lit≤ tt) p h

  pub at-most-9 : p ≤ 9
  at-most-9 = of-each (λ p. p ≤ 9) (lit≤ tt) (lit≤ tt) (lit≤ tt) (lit≤ tt) p h

-- what a match tells where p is none of its numbers
abbrev pub Others : ℕ → Type 0
Others p = ((Unit × (p ≡ 3 → ⊥)) × (p ≡ 5 → ⊥)) × (p ≡ 7 → ⊥)

pub ninth : {p : ℕ} → has_centre p ≡ true → Others p → p ≡ 9
ninth {p} h =
    of-each (λ p. Others p → p ≡ 9) (λ r. absurd (r.0.0.1 refl)) (λ r. absurd (r.0.1 refl)) (λ r. absurd (r.1 refl)) (λ r. refl) p h
