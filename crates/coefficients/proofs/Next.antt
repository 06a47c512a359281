-- A formula's sum at the next point: the first weight times that point's sample, and the other weights times the samples so far.
use mathlib.Core.Path.{◌≡◌, refl, sym, ap, ◌∙◌}
use mathlib.Core.List.{List, [], ◌∷◌}
use Prim.Native.Nat.{ℕ, zero, suc, ◌+◌, ◌-◌, ◌≤◌, zero-le}
use native.Mathlib.Nat.{zero-add, suc-add}
use native.Mathlib.Omega.{arith}
use lib.IntN.{ℤ, pos, ◌+ℤ◌, ◌*ℤ◌, +ℤ_comm, +ℤ_idl, zero-*ℤ, *ℤ-zero}
use lib.ListN.{take, drop}
use Rattle.integers.specs.Differences.{at, in_front, by_samples, by_differences, ordinates, sizes}
use Rattle.integers.proofs.Differences.{ordinates-law}
use Rattle.coefficients.specs.Formulas.{row, weights_of, older_part, own_part}
use Rattle.coefficients.specs.declared.Formula.{Formula}
use Rattle.coefficients.proofs.Rows.{row-law, length-weights, used-law}

-- ---- weights of which the first are skipped

pub at_drop : (n : ℕ) (ws : List ℤ) (k : ℕ) → at (drop n ws) k ≡ at ws (n + k)
at_drop zero ws k = ap (at ws) (sym (zero-add k))
at_drop (suc n) [] k = refl
at_drop (suc n) (w ∷ ws) k = at_drop n ws k ∙ ap (at (w ∷ ws)) (sym (suc-add n k))

pub sizes-drop : (n : ℕ) (ws : List ℤ) → sizes (drop n ws) ≤ sizes ws
unfolding sizes
sizes-drop zero ws = omega arith
sizes-drop (suc n) [] = zero-le
sizes-drop (suc n) (w ∷ ws) = omega (arith, sizes-drop n ws)

-- ---- the sum with a sample in front

by_front : (ws : List ℤ) (a : ℤ) (x : ℕ → ℤ) → by_samples ws (in_front a x) ≡ at ws 0 *ℤ a +ℤ by_samples (drop 1 ws) x
unfolding by_samples
by_front [] a x = rw (zero-*ℤ a) refl
by_front (w ∷ ws) a x = refl

module _ (f : Formula) (p : ℕ) (x : ℕ → ℤ) where
  pub front-law : (a : ℤ) → at (row (weights_of f) p) 0 *ℤ a +ℤ by_samples (drop 1 (row (weights_of f) p)) x ≡ by_differences (weights_of f p) (in_front a x)
  front-law a = sym (by_front (row (weights_of f) p) a x) ∙ row-law (weights_of f) p (in_front a x)

  pub older-law : by_samples (drop 1 (row (weights_of f) p)) x ≡ older_part f p x
  unfolding older_part
  older-law = sym (rw (*ℤ-zero (at (row (weights_of f) p) 0)) (+ℤ_idl (by_samples (drop 1 (row (weights_of f) p)) x))) ∙ front-law (pos 0)

  -- the point's own part and the older one are the whole
  pub next-law : (a : ℤ) → older_part f p x +ℤ own_part f p a ≡ by_differences (weights_of f p) (in_front a x)
  unfolding own_part
  next-law a = +ℤ_comm (older_part f p x) (own_part f p a) ∙ ap (λ z. own_part f p a +ℤ z) (sym older-law) ∙ front-law a

  -- the older part by the weights by samples, of which the first is left out
  pub older-ordinates : by_samples (drop 1 (ordinates (weights_of f p))) x ≡ older_part f p x
  unfolding older_part
  older-ordinates =
      let ws = ordinates (weights_of f p) in
      sym (rw (*ℤ-zero (at ws 0)) (+ℤ_idl (by_samples (drop 1 ws) x))) ∙ sym (by_front ws (pos 0) x) ∙ ordinates-law (weights_of f p) (in_front (pos 0) x)

-- ---- the older part by the weights that are used

take-drop : (n : ℕ) (ws : List ℤ) → take n (drop 1 ws) ≡ drop 1 (take (suc n) ws)
take-drop zero [] = refl
take-drop (suc n) [] = refl
take-drop n (w ∷ ws) = refl

pub older-used : (f : Formula) (p : ℕ) → (1 ≤ p) × (p ≤ 9) → (x : ℕ → ℤ) → by_samples (take (p - 1) (drop 1 (row (weights_of f) p))) x ≡ older_part f p x
unfolding older_part
older-used f zero h x = absurd (omega (arith, h.0))
older-used f (suc n) h x =
    let ws = take (suc n) (row (weights_of f) (suc n)) in
    let e : suc n - 1 ≡ n = omega arith in
    ap (λ k. by_samples (take k (drop 1 (row (weights_of f) (suc n)))) x) e
    ∙ ap (λ us. by_samples us x) (take-drop n (row (weights_of f) (suc n)))
    ∙ sym (rw (*ℤ-zero (at ws 0)) (+ℤ_idl (by_samples (drop 1 ws) x)))
    ∙ sym (by_front ws (pos 0) x)
    ∙ used-law (weights_of f) (suc n) (length-weights f (suc n) h.1) (in_front (pos 0) x)
