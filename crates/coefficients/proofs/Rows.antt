-- A formula's row of nine weights: where it stands in the square, that it begins with the p weights by samples, and that it comes to what the differences come to.
use mathlib.Core.Path.{◌≡◌, refl, sym, ◌∙◌, ap}
use mathlib.Core.Bool.{true}
use mathlib.Core.List.{List, []}
use Prim.Native.Nat.{ℕ, zero, suc, ◌+◌, ◌-◌, ◌≤◌}
use native.Mathlib.Omega.{arith}
use lib.IntN.{ℤ, pos}
use lib.ListN.{length, take, replicate, get_or}
use lib.Seq.{take_at, length-take-le}
use Rattle.integers.specs.Differences.{by_samples, by_differences, ordinates}
use Rattle.integers.proofs.Differences.{ordinates-law, length-ordinates, padded}
use Rattle.coefficients.specs.Fraction.{Fraction}
use Rattle.coefficients.specs.Scaled.{all_whole, run, later}
use Rattle.coefficients.specs.Formulas.{row, listed, square_of, weights_of, coefficient_of, first_index}
use Rattle.coefficients.specs.declared.Formula.{Formula}
use Rattle.coefficients.proofs.Table.{entry}
use Rattle.coefficients.proofs.Written.{whole_of, weights-run, written_row, row_written}

pub row-law : (formula : ℕ → List ℤ) (p : ℕ) (x : ℕ → ℤ) → by_samples (row formula p) x ≡ by_differences (formula p) x
unfolding row
row-law formula p x = padded (ordinates (formula p)) (9 - p) x ∙ ordinates-law (formula p) x

-- ---- in the square

-- a table that is, as a whole, the nine rows from the written-out weights, which antt computes, is the formula's square
pub checked : (f : Formula) {t : List (List ℤ)} → t ≡ listed (written_row f) 1 9 → {w : Formula} → w ≡ f → t ≡ square_of w
unfolding square_of
checked f e told = e ∙ (λ i. listed (λ p. sym (row_written f p) i) 1 9) ∙ ap square_of (sym told)

-- what stands in the square at p - 1 is the row for p points
pub square-row : (f : Formula) {p : ℕ} → (1 ≤ p) × (p ≤ 9) → get_or (square_of f) (p - 1) [] ≡ row (weights_of f) p
unfolding square_of
square-row f {p} h =
    let place : 1 + (p - 1) ≡ p = omega arith in
    entry (row (weights_of f)) 1 9 [] refl (p - 1) (omega arith) ∙ ap (row (weights_of f)) place

-- the same of k - 1, where p is k
pub numbered : (f : Formula) (k : ℕ) {t : List (List ℤ)} → t ≡ square_of f → {p : ℕ} → (1 ≤ p) × (p ≤ 9) → p ≡ k → get_or t (k - 1) [] ≡ row (weights_of f) p
numbered f k e h n = ap (λ s. get_or s (k - 1) []) e ∙ ap (λ m. get_or (square_of f) (m - 1) []) (sym n) ∙ square-row f h

past : {p k : ℕ} → k ≤ p → (p ≡ k → ⊥) → suc k ≤ p
past h n = omega arith

-- what a match tells where p is none of its numbers
abbrev pub Others : ℕ → Type 0
Others p = (((((((Unit × (p ≡ 1 → ⊥)) × (p ≡ 2 → ⊥)) × (p ≡ 3 → ⊥)) × (p ≡ 4 → ⊥)) × (p ≡ 5 → ⊥)) × (p ≡ 6 → ⊥)) × (p ≡ 7 → ⊥)) × (p ≡ 8 → ⊥)

pub ninth : {p : ℕ} → (1 ≤ p) × (p ≤ 9) → Others p → p ≡ 9
ninth {p} h r =
    let least : 9 ≤ p = past (past (past (past (past (past (past (past h.0 r.0.0.0.0.0.0.0.1) r.0.0.0.0.0.0.1) r.0.0.0.0.0.1) r.0.0.0.0.1) r.0.0.0.1) r.0.0.1) r.0.1) r.1 in
    omega (arith, least, h.1)

-- ---- lengths

pub length_run : (f : ℕ → Fraction) (i n : ℕ) (w : all_whole f i n ≡ true) → length (run f i n w) ≡ n
unfolding run
length_run f i zero w = refl
length_run f i (suc n) w = ap suc (length_run f (suc i) n (later f i n w))

pub length-weights : (f : Formula) (p : ℕ) → p ≤ 9 → length (weights_of f p) ≡ p
length-weights f p h =
    let n : length (run (coefficient_of f) (first_index f) 9 (whole_of f)) ≡ 9 = length_run (coefficient_of f) (first_index f) 9 (whole_of f) in
    ap length (weights-run f p) ∙ length-take-le p (run (coefficient_of f) (first_index f) 9 (whole_of f)) (omega arith)

-- of a formula that has p weights for p points
module _ (formula : ℕ → List ℤ) (p : ℕ) (h : length (formula p) ≡ p) where
  pub length-row : length (ordinates (formula p)) ≡ p
  length-row = length-ordinates (formula p) ∙ h

  pub take_row : take p (row formula p) ≡ ordinates (formula p)
  unfolding row
  take_row = take_at (ordinates (formula p)) (replicate (9 - p) (pos 0)) p length-row

  -- the weights that are used come to it by themselves
  pub used-law : (x : ℕ → ℤ) → by_samples (take p (row formula p)) x ≡ by_differences (formula p) x
  used-law x = ap (λ ws. by_samples ws x) take_row ∙ ordinates-law (formula p) x
