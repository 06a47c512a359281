-- The figures, computed; and two calls in the session of H3 to H7, at which each bad version names what is not the cause.
use mathlib.Core.Path.{◌≡◌, refl}
use mathlib.Core.Logic.{⊎_elim}
use mathlib.Core.Bool.{true, false}
use Prim.Native.Nat.{ℕ}
use native.Mathlib.Omega.{arith}
use lib.IntN.{nat_abs}
use lib.Ieee.{of_int}
use Rattle.integers.specs.Lines.{All}
use Rattle.integers.specs.Differences.{by_differences}
use Rattle.rules.specs.Rules.{first_of}
use Rattle.exact.specs.Numerator.{exact_of, numerator, same_exact}
use Rattle.coefficients.specs.Fraction.{times}
use Rattle.coefficients.specs.Rules.{c, g, l, s, total, terms, next, divided}
use Rattle.coefficients.specs.Scaled.{run, whole_run}
use Rattle.coefficients.specs.Formulas.{position_predictor, position_corrector, velocity_predictor, velocity_corrector, older_part}
use Rattle.ticks.specs.Round.{rounded_of}
use Rattle.ticks.specs.Samples.{any}
use Rattle.axis.specs.Formulas.{motion_of, still, present_motion, predicted_motion, corrected_motion, opened_axis, empty_axis, older_motion}
use Rattle.axis.specs.Estimates.{same_motion, in_range}
use Rattle.axis.specs.Holding.{remainders_hold, samples_small, empty_zero, older_holds}
use Rattle.axis.specs.Kinds.{of_position}
use Rattle.session.specs.declared.Session.{Session}
use Rattle.session.specs.Coordinates.{on_x}
use Rattle.session.specs.Numbers.{points_hold, settings_hold}
use Rattle.session.specs.Values.{value}
use Rattle.session.specs.Moves.{nowhere, present_point, estimate_of, predicted_point, corrected_point, point_in_range, settled_again, awaiting_at, opened_session, closed_session}
use Rattle.session.specs.Apart.{points_agree}
use Rattle.session.specs.Holding.{counts_hold, same_point, settled_holds, estimate_begins, awaiting_holds, holds, settled, awaiting}
use Rattle.session.specs.Requests.{exact_point}
use Rattle.steps.specs.Opening.{axis_samples, opened_with}
use Rattle.steps.specs.Refusals.{open_refusal, full, predict_refusal, agrees, is_last, correct_refusal}
use Rattle.steps.specs.Steps.{open_of, predict_of, correct_of}
use Rattle.demands.proofs.Conditions.{agreement}
use Rattle.demands.proofs.Ours.{correct-none}
use Rattle.demands.proofs.Examples.{h3, wide, waiting, a24}
use Rattle.reasons.specs.Reasons.{placed, moved, first_from, beside}
use Rattle.reasons.specs.Differences.{difference, difference_on, differences_with}
use Rattle.reasons.specs.Explanations.{explained_by, explain_of}
use Rattle.causes.specs.Causes.{corrected, tolerated, changed, Over, Causes}
use Rattle.causes.specs.BadVersions.{naming_the_last, velocities_first, explaining_accepted}
use Rattle.causes.specs.Figures.{figures}
use Rattle.causes.specs.Theorems.{TurnedDown}

-- H5 with a velocity tolerance of 5: the sample of 24 moves the position of x by 1, where 0 is allowed, and its velocity by 6
abbrev both : Session
both = waiting (h3 1 0 5 2)

pub record Computed : Type 0 where
  pub table : All figures
  -- x is at fault, and again is answered
  pub unrefused : correct_refusal both a24 ≡ 0
  pub apart : agrees both (corrected both a24) ≡ false
  pub allowed : tolerated both of_position ≡ 0
  pub moved : nat_abs (changed both a24 (value of_position on_x)) ≡ 159667200
  -- the velocity of x is named
  pub last : (naming_the_last both a24).reason.value ≡ 4
  pub velocity : (velocities_first both a24).reason.value ≡ 4
  -- H4 is accepted, and x is named
  pub accepted : correct_refusal (waiting wide) a24 ≡ 0
  pub agreed : agrees (waiting wide) (corrected (waiting wide) a24) ≡ true
  pub explained : (explaining_accepted (waiting wide) a24).reason.value ≡ 1

pub computed : Computed
unfolding first_of by_differences exact_of numerator same_exact times c g l s total terms next divided run whole_run position_predictor position_corrector velocity_predictor velocity_corrector older_part rounded_of any of_int motion_of still older_motion present_motion predicted_motion corrected_motion opened_axis empty_axis same_motion in_range remainders_hold samples_small empty_zero older_holds points_hold settings_hold nowhere present_point estimate_of predicted_point corrected_point point_in_range points_agree settled_again awaiting_at opened_session closed_session counts_hold same_point settled_holds estimate_begins awaiting_holds holds settled awaiting exact_point axis_samples opened_with open_refusal full predict_refusal agrees is_last correct_refusal open_of predict_of correct_of placed moved first_from beside difference difference_on differences_with explained_by explain_of
computed =
    record {
      table = (refl, (refl, (refl, (refl, (refl, (refl, (refl, (refl, (refl, (refl, (refl, (refl, (refl, tt)))))))))))));
      unrefused = refl;
      apart = refl;
      allowed = refl;
      moved = refl;
      last = refl;
      velocity = refl;
      accepted = refl;
      agreed = refl;
      explained = refl;
    }

-- ---- the first value over its tolerance is the position of x

x-over : Over both a24 (value of_position on_x)
x-over = omega (arith, computed.allowed, computed.moved)

-- so its place, 1, is named
names-1 : {n : ℕ} → n ≡ 1 → n ≡ 4 → ⊥
names-1 e f = omega (arith, e, f)

last : ¬ Causes naming_the_last
last h =
    let (_, named) = h.again both a24 ((correct-none both a24).0 computed.unrefused) ((agreement both (corrected both a24)).no.0 computed.apart) in
    ⊎_elim (λ x. names-1 x.1.0 computed.last) (λ x. x.0 x-over) named

velocities : ¬ Causes velocities_first
velocities h =
    let (_, named) = h.again both a24 ((correct-none both a24).0 computed.unrefused) ((agreement both (corrected both a24)).no.0 computed.apart) in
    ⊎_elim (λ x. names-1 x.1.0 computed.velocity) (λ x. x.0 x-over) named

accepted : ¬ Causes explaining_accepted
accepted h =
    let r = waiting wide in
    let (_, named) = h.accepted r a24 ((correct-none r a24).0 computed.accepted) ((agreement r (corrected r a24)).yes.0 computed.agreed) in
    omega (arith, named.0, computed.explained)

pub turned_down : TurnedDown
turned_down = record { last = last; velocities = velocities; accepted = accepted }
