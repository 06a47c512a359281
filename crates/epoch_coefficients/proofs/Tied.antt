-- L is -log(1-x). x/L is the series c: c times L/x is 1. Its square is the series l. The divisions by x and by x² lose nothing: what they divide begins with 0.
use mathlib.Core.Path.{◌≡◌, refl, ◌∙◌, ap, subst}
use Prim.Native.Nat.{ℕ, zero, suc, ◌-◌, ◌≤◌}
use native.Mathlib.Omega.{arith}
use lib.IntN.{pos}
use Rattle.coefficients.specs.Fraction.{◌over◌, ◌⊗◌, ◌≐◌}
use Rattle.coefficients.specs.Rules.{c, l, total, terms, next, divided}
use Rattle.coefficients.proofs.Fractions.{total-same, total-turned}
use Rattle.coefficients.proofs.Rule.{rule}
use Rattle.epoch_coefficients.specs.Series.{one, one_less_x, log_over_x, less, product}

-- the rule of c has the terms from the last on
turned : (i : ℕ) → total (λ k. c (i - k) ⊗ pos 1 over suc k) i ≡ product c log_over_x i
turned i =
    total-turned (λ k. c (i - k) ⊗ pos 1 over suc k) i
    ∙ total-same (λ k. c (i - (i - k)) ⊗ pos 1 over suc (i - k)) (λ k. c k ⊗ log_over_x (i - k)) i (λ k h. ap (λ n. c n ⊗ log_over_x (i - k)) (back k h))
  where
    back : (k : ℕ) → k ≤ i → i - (i - k) ≡ k
    back k h = omega arith

pub c-times-log : (i : ℕ) → product c log_over_x i ≐ one i
unfolding total c terms
c-times-log zero = refl
c-times-log (suc i) = subst (λ q. q ≐ pos 0 over 1) (turned (suc i)) (rule (suc i) (omega arith))

pub square : (i : ℕ) → product c c i ≡ l i
unfolding l
square i = refl

-- ---- nothing is lost

pub position-0 : less (product c c) one_less_x 0 ≐ pos 0 over 1
unfolding total c terms
position-0 = refl

pub position-1 : less (product c c) one_less_x 1 ≐ pos 0 over 1
unfolding total c terms next divided
position-1 = refl

pub velocity-0 : less c one 0 ≐ pos 0 over 1
unfolding c terms
velocity-0 = refl
