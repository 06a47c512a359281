-- Every printed figure of document 000's Tables 2.3 and 2.4 is the coefficient of the series: D times it is held against the list, by one computed test for each table.
use mathlib.Core.Path.{refl, sym, subst}
use mathlib.Core.Bool.{Bool}
use mathlib.Core.List.{List}
use Prim.Native.Nat.{ℕ, ◌<◌}
use lib.Dec.{lit≤}
use lib.IntN.{pos, ◌*ℤ◌}
use lib.ListN.{take}
use Rattle.integers.specs.Differences.{at}
use Rattle.integers.proofs.Tests.{eqℤ-true}
use Rattle.exact.specs.Numerator.{D}
use Rattle.coefficients.specs.Fraction.{Fraction, denominator, ◌over◌, ◌≐◌, same}
use Rattle.coefficients.specs.declared.Formula.{Formula}
use Rattle.coefficients.specs.declared.Formula.TheVariants.{PositionCorrector, VelocityCorrector}
use Rattle.coefficients.proofs.Table.{Everywhere, throughout}
use Rattle.coefficients.proofs.Written.{written, weights-written}
use Rattle.epoch_coefficients.specs.Series.{position_series, velocity_series}
use Rattle.epoch_coefficients.specs.Formulas.{less_before, cut, earlier_position, earlier_velocity}
use Rattle.epoch_coefficients.specs.Printed.{figure, position_printed, velocity_printed}
use Rattle.epoch_coefficients.proofs.Rows.{earlier_of}
use Rattle.epoch_coefficients.proofs.Times.{Times, settled}
use Rattle.epoch_coefficients.proofs.Cut.{position-times, velocity-times}

-- the list has D times the figure
abbrev agrees : Formula → List (List Fraction) → ℕ → ℕ → Bool
agrees f t j k = same (at (cut j (take 9 (written f))) k over D) (figure t j k)

abbrev Agrees : Formula → List (List Fraction) → Type 0
Agrees f t = Everywhere (agrees f t) 9 (λ j. 9)

position-agrees : Agrees PositionCorrector position_printed
unfolding written cut less_before position_printed
position-agrees = refl

velocity-agrees : Agrees VelocityCorrector velocity_printed
unfolding written cut less_before velocity_printed
velocity-agrees = refl

module _ (f : Formula) (t : List (List Fraction)) (e : Agrees f t) (j k : ℕ) (h : j < 9) (b : k < 9) where
  figure-times : Times D (figure t j k) (at (earlier_of f j 9) k)
  figure-times =
      subst (λ ws. Times D (figure t j k) (at (cut j ws) k)) (sym (weights-written f 9))
      (record { across = eqℤ-true (at (cut j (take 9 (written f))) k *ℤ pos (denominator (figure t j k))) ((figure t j k).top *ℤ pos D) (throughout (agrees f t) 9 (λ j. 9) e j k h b) })

module _ (j k : ℕ) (h : j < 9) (b : k < 9) where
  pub position-printed : figure position_printed j k ≐ position_series j k
  unfolding earlier_position
  position-printed =
      settled D (figure position_printed j k) (position_series j k) (lit≤ tt) (figure-times PositionCorrector position_printed position-agrees j k h b) (position-times 9 (lit≤ tt) j k b)

  pub velocity-printed : figure velocity_printed j k ≐ velocity_series j k
  unfolding earlier_velocity
  velocity-printed =
      settled D (figure velocity_printed j k) (velocity_series j k) (lit≤ tt) (figure-times VelocityCorrector velocity_printed velocity-agrees j k h b) (velocity-times 9 (lit≤ tt) j k b)
