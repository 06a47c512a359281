-- The rows of the points before the newest, from the written-out weights of the corrector: a table that lists them has the row for j at j, each is light enough for `combine`, and comes to what the differences come to.
use mathlib.Core.Path.{◌≡◌, refl, sym, ◌∙◌, ap}
use mathlib.Core.Bool.{Bool, true}
use mathlib.Core.List.{List, [], ◌∷◌, ◌++◌}
use Prim.Native.Nat.{ℕ, zero, suc, ◌-◌, ◌≤◌, ◌<◌}
use native.Mathlib.Nat.{zero-add, lt_of_le_of_lt}
use native.Mathlib.Omega.{arith}
use borrow.Author.Tests.{ltb-true}
use lib.Dec.{ltb}
use lib.IntN.{ℤ, pos, nat_abs}
use lib.ListN.{length, take, replicate, get_or}
use mir.Syntax.{w64}
use mir.Val.{SFits}
use Rattle.integers.specs.Differences.{by_samples, by_differences, ordinates, spread, sizes}
use Rattle.integers.proofs.Differences.{size-of-sum}
use Rattle.integers.specs.Size.{sfits-of-size}
use Rattle.coefficients.specs.Formulas.{row, listed, weights_of, heaviest, largest}
use Rattle.coefficients.specs.declared.Formula.{Formula}
use Rattle.coefficients.specs.declared.Formula.TheVariants.{PositionCorrector, VelocityCorrector}
use Rattle.coefficients.proofs.Table.{entry, Everywhere, throughout}
use Rattle.coefficients.proofs.Written.{written, weights-written}
use Rattle.coefficients.proofs.Rows.{length-weights, row-law, used-law}
use Rattle.coefficients.proofs.Bounds.{below}
use Rattle.epoch_coefficients.specs.Formulas.{less_before, cut, has_centre}
use Rattle.epoch_coefficients.proofs.Centre.{at-most-9}

-- of a corrector, for j steps before the newest point
abbrev pub earlier_of : Formula → ℕ → ℕ → List ℤ
earlier_of f j p = cut j (weights_of f p)

-- the row of p points, from the list
abbrev pub written_row : Formula → ℕ → ℕ → List ℤ
written_row f p j = ordinates (cut j (take p (written f))) ++ replicate (9 - p) (pos 0)

row_written : (f : Formula) (p j : ℕ) → row (earlier_of f j) p ≡ written_row f p j
unfolding row
row_written f p j = ap (λ ws. ordinates (cut j ws) ++ replicate (9 - p) (pos 0)) (weights-written f p)

-- a table that lists the rows for k points, where p is k
pub listed-row : (f : Formula) (k : ℕ) {t : List (List ℤ)} → t ≡ listed (written_row f k) 0 k → {p j : ℕ} → p ≡ k → j < p → get_or t j [] ≡ row (earlier_of f j) p
listed-row f k e {p} {j} h l = entry (written_row f k) 0 k [] e j (omega arith) ∙ (λ i. written_row f (sym h i) (zero-add j i)) ∙ sym (row_written f p j)

-- ---- how heavy they are

abbrev light : Formula → ℕ → ℕ → Bool
light f p j = ltb (sizes (written_row f p j)) heaviest

-- those of every p to 9, at each of its points
abbrev pub Light : Formula → Type 0
Light f = Everywhere (light f) 10 (λ p. p)

pub position-light : Light PositionCorrector
unfolding sizes ordinates spread written cut less_before
position-light = refl

pub velocity-light : Light VelocityCorrector
unfolding sizes ordinates spread written cut less_before
velocity-light = refl

pub bounded : (f : Formula) → Light f → {p j : ℕ} → p ≤ 9 → j < p → sizes (row (earlier_of f j) p) < heaviest
bounded f w {p} {j} h l = rw (row_written f p j) (ltb-true (sizes (written_row f p j)) heaviest (throughout (light f) 10 (λ p. p) w p j (omega arith) l))

-- ---- what they come to

pub length-less : (b : ℤ) (ws : List ℤ) → length (less_before b ws) ≡ length ws
unfolding less_before
length-less b [] = refl
length-less b (w ∷ ws) = ap suc (length-less w ws)

pub length_cut : (j : ℕ) (ws : List ℤ) → length (cut j ws) ≡ length ws
unfolding cut
length_cut zero ws = refl
length_cut (suc j) ws = length-less (pos 0) (cut j ws) ∙ length_cut j ws

pub sum-law : (f : Formula) (p j : ℕ) → has_centre p ≡ true → (x : ℕ → ℤ) → by_samples (take p (row (earlier_of f j) p)) x ≡ by_differences (earlier_of f j p) x
sum-law f p j h = used-law (earlier_of f j) p (length_cut j (weights_of f p) ∙ length-weights f p (at-most-9 h))

-- of small samples it fits an i64
pub fits : (f : Formula) → Light f → {p j : ℕ} → has_centre p ≡ true → j < p → (x : ℕ → ℤ) → ((k : ℕ) → nat_abs (x k) ≤ largest) → SFits w64 (by_differences (earlier_of f j p) x)
fits f w {p} {j} h l x small =
    sfits-of-size
    (rw (← (row-law (earlier_of f j) p x))
    (lt_of_le_of_lt (size-of-sum (row (earlier_of f j) p) x small) (below (sizes (row (earlier_of f j) p)) (bounded f w (at-most-9 h) l))))
