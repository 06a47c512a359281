-- A list that has D times the first coefficients of a series, applied to the differences of the samples, is over D the series applied to them: for every
-- series and list, and so for the two of a point before the newest.
use mathlib.Core.Path.{◌≡◌, refl, sym, subst, ◌∙◌}
use mathlib.Core.List.{List, [], ◌∷◌}
use Prim.Native.Nat.{ℕ, suc, ◌+◌, ◌≤◌, ◌<◌}
use native.Mathlib.Nat.{zero-add, add-zero, add-suc, suc-add}
use native.Mathlib.Omega.{arith}
use lib.IntN.{ℤ}
use lib.ListN.{length}
use Rattle.integers.specs.Differences.{at, back, by_differences}
use Rattle.exact.specs.Numerator.{D}
use Rattle.coefficients.specs.Formulas.{series, weights_of}
use Rattle.coefficients.specs.declared.Formula.TheVariants.{PositionCorrector, VelocityCorrector}
use Rattle.coefficients.proofs.Rows.{length-weights}
use Rattle.epoch_coefficients.specs.Series.{Series, position_series, velocity_series}
use Rattle.epoch_coefficients.specs.Formulas.{earlier_position, earlier_velocity}
use Rattle.epoch_coefficients.proofs.Rows.{length_cut}
use Rattle.epoch_coefficients.proofs.Times.{Times, sum, by_whole}
use Rattle.epoch_coefficients.proofs.Cut.{position-times, velocity-times}

-- THE law: for every series, list and samples
applied : (f : Series) (i : ℕ) (ws : List ℤ) → ((k : ℕ) → k < length ws → Times D (f (i + k)) (at ws k)) → (x : ℕ → ℤ) → Times D (series f i (length ws) x) (by_differences ws x)
unfolding series by_differences
applied f i [] h x = record { across = refl }
applied f i (w ∷ ws) h x =
    sum (by_whole (x 0) (subst (λ m. Times D (f m) w) (add-zero i) (h 0 (omega arith))))
    (applied f (suc i) ws (λ k l. subst (λ m. Times D (f m) (at ws k)) (add-suc i k ∙ sym (suc-add i k)) (h (suc k) (omega (arith, l)))) (back x))

-- a list of p
applied-p : (f : Series) (p : ℕ) (ws : List ℤ) → length ws ≡ p → ((k : ℕ) → k < p → Times D (f k) (at ws k)) → (x : ℕ → ℤ) → Times D (series f 0 p x) (by_differences ws x)
applied-p f p ws e h x = subst (λ n. Times D (series f 0 n x) (by_differences ws x)) e (applied f 0 ws (λ k l. subst (λ m. Times D (f m) (at ws k)) (sym (zero-add k)) (h k (omega (arith, l, e)))) x)

module _ (p : ℕ) (h : p ≤ 9) (j : ℕ) (x : ℕ → ℤ) where
  pub position-applied : Times D (series (position_series j) 0 p x) (by_differences (earlier_position j p) x)
  unfolding earlier_position
  position-applied =
      applied-p (position_series j) p (earlier_position j p) (length_cut j (weights_of PositionCorrector p) ∙ length-weights PositionCorrector p h) (λ k l. position-times p h j k l) x

  pub velocity-applied : Times D (series (velocity_series j) 0 p x) (by_differences (earlier_velocity j p) x)
  unfolding earlier_velocity
  velocity-applied =
      applied-p (velocity_series j) p (earlier_velocity j p) (length_cut j (weights_of VelocityCorrector p) ∙ length-weights VelocityCorrector p h) (λ k l. velocity-times p h j k l) x
