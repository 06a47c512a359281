-- The older part of a formula is the sum by columns: the weights of its row from the second column on, each times the sample one place newer, for every p.
use mathlib.Core.Path.{◌≡◌, refl, sym, ap, ◌∙◌}
use mathlib.Core.List.{List, [], ◌∷◌}
use Prim.Native.Nat.{ℕ, zero, suc, ◌-◌, ◌≤◌}
use native.Mathlib.Omega.{arith}
use lib.IntN.{ℤ, pos, ◌+ℤ◌, ◌*ℤ◌, +ℤ_assoc, +ℤ_comm, zero-*ℤ}
use lib.ListN.{length, drop, length-take}
use Rattle.integers.specs.Differences.{at, older, by_samples, ordinates}
use Rattle.integers.proofs.Differences.{length-ordinates}
use Rattle.coefficients.specs.declared.Formula.{Formula}
use Rattle.coefficients.specs.Scaled.{run}
use Rattle.coefficients.specs.Formulas.{weights_of, coefficient_of, first_index, older_part}
use Rattle.coefficients.proofs.Written.{whole_of, weights-run}
use Rattle.coefficients.proofs.Next.{older-ordinates}
use Rattle.axis.specs.Kinds.{Kind, of_position, of_velocity}
use Rattle.axis.proofs.Held.{corrector_of}
use Rattle.demands.specs.Records.{column, older_sum}

-- ---- the sum by columns

-- its first term
from_first : (w a : ℕ → ℤ) (n : ℕ) → older_sum w a (suc n) ≡ w 1 *ℤ a 0 +ℤ older_sum (older w) (older a) n
unfolding older_sum
from_first w a zero = +ℤ_comm (pos 0) (w 1 *ℤ a 0)
from_first w a (suc n) = ap (λ z. z +ℤ w (suc (suc n)) *ℤ a (suc n)) (from_first w a n) ∙ +ℤ_assoc (w 1 *ℤ a 0) (older_sum (older w) (older a) n) (w (suc (suc n)) *ℤ a (suc n))

-- weights of 0 add nothing
none : (w : ℕ → ℤ) → ((j : ℕ) → w (suc j) ≡ pos 0) → (a : ℕ → ℤ) (n : ℕ) → older_sum w a n ≡ pos 0
unfolding older_sum
none w h a zero = refl
none w h a (suc n) = rw (none w h a n, h n, zero-*ℤ (a n)) refl

-- as many terms as there are weights, or more
by-columns : (w : ℤ) (ws : List ℤ) (a : ℕ → ℤ) (n : ℕ) → length ws ≤ n → by_samples ws a ≡ older_sum (at (w ∷ ws)) a n
unfolding by_samples
by-columns w [] a n h = sym (none (at (w ∷ [])) (λ j. refl) a n)
by-columns w (v ∷ ws) a zero h = absurd (omega arith)
by-columns w (v ∷ ws) a (suc n) h = ap (λ z. v *ℤ a 0 +ℤ z) (by-columns v ws (older a) n (omega arith)) ∙ sym (from_first (at (w ∷ v ∷ ws)) a n)

past_first : (ws : List ℤ) (a : ℕ → ℤ) (n : ℕ) → length ws ≤ suc n → by_samples (drop 1 ws) a ≡ older_sum (at ws) a n
unfolding by_samples
past_first [] a n h = sym (none (at []) (λ j. refl) a n)
past_first (w ∷ ws) a n h = by-columns w ws a n (omega arith)

-- ---- of a formula

few : (f : Formula) (p : ℕ) → length (weights_of f p) ≤ p
few f p = rw (weights-run f p) (omega (arith, length-take p (run (coefficient_of f) (first_index f) 9 (whole_of f))))

older-columns : (f : Formula) (p : ℕ) (a : ℕ → ℤ) → older_part f p a ≡ older_sum (at (ordinates (weights_of f p))) a (p - 1)
older-columns f p a =
    sym (older-ordinates f p a)
    ∙ past_first (ordinates (weights_of f p)) a (p - 1) (omega (arith, length-ordinates (weights_of f p), few f p))

pub older-by-columns : (kind : Kind) (p : ℕ) (a : ℕ → ℤ) → older_part (corrector_of kind) p a ≡ older_sum (column kind p) a (p - 1)
older-by-columns of_position p a = older-columns (corrector_of of_position) p a
older-by-columns of_velocity p a = older-columns (corrector_of of_velocity) p a
