-- What each formula multiplies the samples' differences by, written out. antt computes it from the rules, once; the other proofs go by the list.
use mathlib.Core.Path.{◌≡◌, refl, ◌∙◌, ap}
use mathlib.Core.Bool.{true}
use mathlib.Core.List.{List, [], ◌∷◌, ◌++◌}
use Prim.Native.Nat.{ℕ, ◌-◌}
use lib.IntN.{ℤ, pos, neg_ℤ}
use lib.ListN.{take, replicate}
use Rattle.integers.specs.Differences.{ordinates}
use Rattle.coefficients.specs.Fraction.{times}
use Rattle.coefficients.specs.Rules.{c, g, l, s, total, terms, next, divided}
use Rattle.coefficients.specs.Scaled.{all_whole, run}
use Rattle.coefficients.proofs.FromFirst.{whole_run-run, c-from-1, g-from-1, l-from-2, s-from-2}
use Rattle.coefficients.specs.Formulas.{weights_of, coefficient_of, first_index, row, position_predictor, position_corrector, velocity_predictor, velocity_corrector}
use Rattle.coefficients.specs.declared.Formula.{Formula}
use Rattle.coefficients.specs.declared.Formula.TheVariants.{PositionPredictor, PositionCorrector, VelocityPredictor, VelocityCorrector}

-- a formula's coefficients are whole times D
pub whole_of : (f : Formula) → all_whole (coefficient_of f) (first_index f) 9 ≡ true
whole_of PositionPredictor = s-from-2
whole_of PositionCorrector = l-from-2
whole_of VelocityPredictor = g-from-1
whole_of VelocityCorrector = c-from-1

-- the weights for p points are the first p of nine
pub weights-run : (f : Formula) (p : ℕ) → weights_of f p ≡ take p (run (coefficient_of f) (first_index f) 9 (whole_of f))
unfolding position_predictor position_corrector velocity_predictor velocity_corrector whole_of
weights-run PositionPredictor p = ap (take p) (whole_run-run s 2 9 s-from-2)
weights-run PositionCorrector p = ap (take p) (whole_run-run l 2 9 l-from-2)
weights-run VelocityPredictor p = ap (take p) (whole_run-run g 1 9 g-from-1)
weights-run VelocityCorrector p = ap (take p) (whole_run-run c 1 9 c-from-1)

unfoldable pub written : Formula → List ℤ
written PositionPredictor = pos 13305600 ∷ pos 13305600 ∷ pos 12640320 ∷ pos 11975040 ∷ pos 11391600 ∷ pos 10890000 ∷ pos 10457524 ∷ pos 10081456 ∷ pos 9751299 ∷ []
written PositionCorrector = pos 13305600 ∷ pos 0 ∷ neg_ℤ (pos 665280) ∷ neg_ℤ (pos 665280) ∷ neg_ℤ (pos 583440) ∷ neg_ℤ (pos 501600) ∷ neg_ℤ (pos 432476) ∷ neg_ℤ (pos 376068) ∷ neg_ℤ (pos 330157) ∷ []
written VelocityPredictor = pos 79833600 ∷ pos 66528000 ∷ pos 59875200 ∷ pos 55661760 ∷ pos 52668000 ∷ pos 50389680 ∷ pos 48574680 ∷ pos 47080748 ∷ pos 45820566 ∷ []
written VelocityCorrector = neg_ℤ (pos 79833600) ∷ neg_ℤ (pos 13305600) ∷ neg_ℤ (pos 6652800) ∷ neg_ℤ (pos 4213440) ∷ neg_ℤ (pos 2993760) ∷ neg_ℤ (pos 2278320) ∷ neg_ℤ (pos 1815000) ∷ neg_ℤ (pos 1493932) ∷ neg_ℤ (pos 1260182) ∷ []

computed : (f : Formula) → run (coefficient_of f) (first_index f) 9 (whole_of f) ≡ written f
unfolding written run times s l g total c terms next divided
computed PositionPredictor = refl
computed PositionCorrector = refl
computed VelocityPredictor = refl
computed VelocityCorrector = refl

pub weights-written : (f : Formula) (p : ℕ) → weights_of f p ≡ take p (written f)
weights-written f p = weights-run f p ∙ ap (take p) (computed f)

-- the row of p points, from the list
abbrev pub written_row : Formula → ℕ → List ℤ
written_row f p = ordinates (take p (written f)) ++ replicate (9 - p) (pos 0)

pub row_written : (f : Formula) (p : ℕ) → row (weights_of f) p ≡ written_row f p
unfolding row
row_written f p = ap (λ ws. ordinates ws ++ replicate (9 - p) (pos 0)) (weights-written f p)
