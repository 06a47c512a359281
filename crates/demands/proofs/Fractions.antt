-- Demand 2 in fractions: the sums and points of a session, which are numerators over D, are those of the rules' fractions.
use mathlib.Core.Path.{refl, ap, ◌∙◌}
use mathlib.Core.List.{List, [], ◌∷◌}
use Prim.Native.Nat.{ℕ, ◌≤◌}
use lib.IntN.{ℤ, pos, ◌-ℤ◌, ◌*ℤ◌}
use Rattle.integers.specs.Ring.{*ℤ-pos1}
use Rattle.integers.specs.Differences.{by_differences}
use Rattle.exact.specs.Numerator.{D}
use Rattle.coefficients.specs.Fraction.{Fraction, denominator, ◌over◌}
use Rattle.coefficients.specs.Formulas.{series, weights_of, coefficient_of, first_index}
use Rattle.coefficients.specs.declared.Formula.{Formula}
use Rattle.coefficients.specs.declared.Formula.TheVariants.{PositionPredictor, PositionCorrector, VelocityPredictor, VelocityCorrector}
use Rattle.coefficients.proofs.Series.{formula-series}
use Rattle.epoch_coefficients.proofs.Times.{Times, sum, negated}
use Rattle.ticks.specs.declared.WholeSample.{WholeSample}
use Rattle.ticks.specs.Samples.{whole_of}
use Rattle.axis.specs.Formulas.{ticks}
use Rattle.session.specs.Coordinates.{Coordinate, ticks_on}
use Rattle.session.specs.declared.Session.{Session}
use Rattle.steps.specs.declared.ReportedPoint.{ReportedPoint}
use Rattle.steps.specs.declared.Correction.TheVariants as C
use Rattle.demands.specs.Histories.{ours, Call, history, Event, predicting, correcting, withdrawing, refining, entries, samples_of}
use Rattle.demands.specs.ClosedForm.{Origin, Begins, samples, first_sum, second_before, position_at, velocity_at, next_position, next_velocity, Carries, Tells, Told}
use Rattle.demands.specs.Fractions.{◌⊖◌, first_in, before_in, corrected_position, corrected_velocity, predicted_position, predicted_velocity, Worth, TellsInTicks, ToldInTicks}
use Rattle.demands.proofs.Standing.{points-most}
use Rattle.demands.proofs.Ours.{formulas}
use Rattle.std.specs.Prelude.{Ok, Err}

-- ---- numerators over D

pub over-D : (u : ℤ) → Times D (u over D) u
over-D u = record { across = refl }

pub whole : (n : ℤ) → Times D (n over 1) (ticks n)
whole n = record { across = *ℤ-pos1 (ticks n) }

pub difference : {d : ℕ} {p q : Fraction} {u v : ℤ} → Times d p u → Times d q v → Times d (p ⊖ q) (u -ℤ v)
difference e f = sum e (negated f)

formula : (f : Formula) (p : ℕ) → p ≤ 9 → (x : ℕ → ℤ) → Times D (series (coefficient_of f) (first_index f) p x) (by_differences (weights_of f p) x)
formula f p h x = record { across = formula-series f p h x }

-- ---- the sums and the points

module _ (o : Origin) (h : o.points ≤ 9) (k : Coordinate) where
  first-is : (ws : List WholeSample) → Times D (first_in o k ws) (first_sum o k ws)
  unfolding first_in first_sum
  first-is [] = difference (over-D (o.velocity k)) (formula VelocityCorrector o.points h (samples o k []))
  first-is (w ∷ ws) = sum (first-is ws) (whole (ticks_on k w))

  before-is : (ws : List WholeSample) → Times D (before_in o k ws) (second_before o k ws)
  unfolding before_in second_before
  before-is [] = difference (over-D (o.position k)) (formula PositionCorrector o.points h (samples o k []))
  before-is (w ∷ ws) = sum (before-is ws) (first-is ws)

  module _ (ws : List WholeSample) where
    corrected-position : Times D (corrected_position o k ws) (position_at o k ws)
    unfolding position_at
    corrected-position = sum (before-is ws) (formula PositionCorrector o.points h (samples o k ws))

    corrected-velocity : Times D (corrected_velocity o k ws) (velocity_at o k ws)
    unfolding velocity_at
    corrected-velocity = sum (first-is ws) (formula VelocityCorrector o.points h (samples o k ws))

    predicted-position : Times D (predicted_position o k ws) (next_position o k ws)
    unfolding next_position
    predicted-position = sum (sum (before-is ws) (first-is ws)) (formula PositionPredictor o.points h (samples o k ws))

    predicted-velocity : Times D (predicted_velocity o k ws) (next_velocity o k ws)
    unfolding next_velocity
    predicted-velocity = sum (first-is ws) (formula VelocityPredictor o.points h (samples o k ws))

-- ---- the answers

worth : (q : ReportedPoint) (x v : Coordinate → ℤ) (y u : Coordinate → Fraction) → Carries q x v → ((k : Coordinate) → Times D (y k) (x k)) → ((k : Coordinate) → Times D (u k) (v k)) → Worth q y u
worth q x v y u h e f =
    record {
      position = λ k. ap (λ z. z *ℤ pos (denominator (y k))) (h.position k) ∙ (e k).across;
      velocity = λ k. ap (λ z. z *ℤ pos (denominator (u k))) (h.velocity k) ∙ (f k).across;
    }

module _ (o : Origin) (h : o.points ≤ 9) where
  corrected : (ws : List WholeSample) (q : ReportedPoint) → Carries q (λ k. position_at o k ws) (λ k. velocity_at o k ws) → Worth q (λ k. corrected_position o k ws) (λ k. corrected_velocity o k ws)
  corrected ws q c = worth q (λ k. position_at o k ws) (λ k. velocity_at o k ws) _ _ c (λ k. corrected-position o h k ws) (λ k. corrected-velocity o h k ws)

  tells : (ws : List WholeSample) (e : Event) → Tells o ws e → TellsInTicks o ws e
  tells ws (predicting (Ok q)) t =
      worth q (λ k. next_position o k ws) (λ k. next_velocity o k ws) _ _ t (λ k. predicted-position o h k ws) (λ k. predicted-velocity o h k ws)
  tells ws (predicting (Err n)) t = tt
  tells ws (correcting a (C.Accepted q)) t = corrected (whole_of a ∷ ws) q t
  tells ws (correcting a (C.Again q c)) t = corrected (whole_of a ∷ ws) q t
  tells ws (correcting a (C.Refused n)) t = tt
  tells ws (withdrawing r) t = tt
  tells ws (refining floats r) t = tt

  told : (es : List Event) → Told o es → ToldInTicks o es
  told [] t = tt
  told (e ∷ es) t = (tells (samples_of (entries es)) e t.0, told es t.1)

pub told-in-ticks : (o : Origin) (s : Session) → Begins o s → (calls : List Call) → ToldInTicks o (history ours s calls)
told-in-ticks o s b calls = told o (points-most o s b) (history ours s calls) (formulas.told o s b calls)
