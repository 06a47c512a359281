-- What the start with p 3 leads to: two points after it, and a start that opens at the same point; and what the definitions compute there.
use mathlib.Core.Path.{◌≡◌, refl}
use mathlib.Core.List.{List, [], ◌∷◌}
use Prim.Native.Nat.{◌*◌}
use lib.IntN.{ℤ, pos}
use lib.ListN.{length}
use lib.Ieee.{add, div, of_int}
use Rattle.rules.specs.Rules.{first_of}
use Rattle.integers.specs.Differences.{by_differences}
use Rattle.exact.specs.Numerator.{D, exact_of, numerator, same_exact}
use Rattle.coefficients.specs.Fraction.{times}
use Rattle.coefficients.specs.Rules.{c, g, l, s, total, terms, next, divided}
use Rattle.coefficients.specs.Scaled.{run, whole_run}
use Rattle.coefficients.specs.Formulas.{position_corrector, velocity_corrector, position_predictor, velocity_predictor, older_part}
use Rattle.ticks.specs.declared.Sample.{Sample}
use Rattle.ticks.specs.declared.WholeSample.{WholeSample}
use Rattle.ticks.specs.Round.{rounded_of}
use Rattle.ticks.specs.Samples.{any}
use Rattle.epoch_coefficients.specs.Formulas.{less_before, cut, earlier_position, earlier_velocity, has_centre}
use Rattle.axis.specs.Formulas.{motion_of, still, present_motion, predicted_motion, corrected_motion, kept_samples, advanced_axis, opened_axis, older_motion}
use Rattle.axis.specs.Estimates.{same_motion, in_range}
use Rattle.axis.specs.Agreement.{change_of, sizes, agrees_on}
use Rattle.axis.specs.Holding.{remainders_hold, samples_small, empty_zero, older_holds, places_hold}
use Rattle.epoch_axis.specs.Formulas.{next_sums, back_sums, run_on, run_back, newest_sums, earlier_motion, centre_sums, started_axis}
use Rattle.session.specs.declared.Session.{Session}
use Rattle.session.specs.declared.State.TheVariants.{Awaiting}
use Rattle.session.specs.Numbers.{points_hold, settings_hold}
use Rattle.session.specs.Moves.{nowhere, present_point, estimate_of, predicted_point, corrected_point, point_in_range, awaiting_at, accepted_at, opened_session, closed_session}
use Rattle.session.specs.Apart.{points_agree, point_change}
use Rattle.session.specs.Coordinates.{on_x}
use Rattle.session.specs.Holding.{counts_hold, same_point, settled_holds, estimate_begins, awaiting_holds, holds, settled, awaiting}
use Rattle.session.specs.Requests.{exact_point}
use Rattle.steps.specs.Answers.{reported_motion, reported_point, reported_change, no_point, no_change}
use Rattle.steps.specs.Opening.{axis_samples, opened_with}
use Rattle.steps.specs.Refusals.{open_refusal, full, predict_refusal, agrees, largest_change, is_last, correct_refusal}
use Rattle.steps.specs.Steps.{open_of, predict_of, correct_of}
use Rattle.epoch_session.specs.Rounds.{round_of, earlier_point, every_below, largest_below, round_in_range, rounds_agree, largest_move}
use Rattle.epoch_session.specs.Records.{held_round, sums_zero, older_zero, epoch_holds, axis_starts, axes_start, start_holds, starting, starting_axis, starting_session, opened_round}
use Rattle.epoch_steps.specs.declared.Outcome.TheVariants as R
use Rattle.epoch_steps.specs.Answers.{points_from, round_points, no_points}
use Rattle.epoch_steps.specs.Refusals.{given_round, start_refusal, later_round, refine_refusal}
use Rattle.epoch_steps.specs.Steps.{start_of, refine_of}
use Rattle.demands.specs.Histories.{ours, Call, predict, correct, after, history, Entry, entries, samples_of, agains}
use Rattle.demands.specs.ClosedForm.{start_origin}
use Rattle.demands.specs.Demands.{second_difference, first_difference}
use Rattle.demands.proofs.RoundExamples.{float, force, requested, newest, begun}

-- ---- the sessions

-- a start from the same epoch with the widest tolerances and samples of 24
abbrev pub loose : Session
loose = (ours.starts closed_session (requested 3 (record { position = 1048576; velocity = 1048576 }) (pos 1000) (pos 10) (pos 24))).session

-- what a later round of 12 opens, and what an open at the same point
abbrev pub opened : Session → Session
opened s = (refine_of s (force (pos 12))).session

abbrev pub opened_there : Session
opened_there = (ours.opens closed_session newest).session

abbrev sampled : ℤ → Sample
sampled n = record { x = float n; y = float (pos 0); z = float (pos 0) }

-- a point with the sample 12, and a first correction of the next with 24; and that corrected again
abbrev pub once : List Call
once = correct (sampled (pos 24)) ∷ predict ∷ correct (sampled (pos 12)) ∷ predict ∷ []

abbrev pub twice : List Call
twice = correct (sampled (pos 24)) ∷ once

-- where no position may move the second correction is accepted, and where it may the first
abbrev pub two : List Entry
two = entries (history ours (opened begun) twice)

abbrev pub samples_of_two : List WholeSample
samples_of_two = record { x = pos 24; y = pos 0; z = pos 0 } ∷ record { x = pos 12; y = pos 0; z = pos 0 } ∷ []

-- ---- what the definitions compute there

pub record Computed : Type 0 where
  -- two points: 1044 with velocity 34, and then a second difference of 12.95 ticks
  pub points : length two ≡ 2
  pub first : first_difference (start_origin begun (force (pos 12))) on_x two 1 ≡ pos (12 * D)
  pub second : second_difference (start_origin begun (force (pos 12))) on_x two 2 ≡ pos 2067690240
  -- one answer *again* on the way
  pub awaits : (after ours (opened begun) once).state ≡ Awaiting
  pub one_again : agains 0 (history ours (opened begun) once) ≡ 1
  -- the other start opens there too, and the same samples are accepted after both, and after the open
  pub opens : (refine_of loose (force (pos 12))).answer.outcome ≡ R.Opened
  pub three_points : loose.points ≡ 3
  pub point0 : earlier_point (later_round loose (force (pos 12))) 0 ≡ exact_point newest.point
  pub samples : samples_of two ≡ samples_of_two
  pub samples_there : samples_of (entries (history ours opened_there twice)) ≡ samples_of_two
  pub samples_loose : samples_of (entries (history ours (opened loose) once)) ≡ samples_of_two
  -- the held sum after the two points
  pub older : (after ours (opened begun) twice).x.older ≡ record { position = record { whole = pos 0; part = 23950080 }; velocity = record { whole = pos 3; part = 79833600 } }

pub computed : Computed
unfolding add div of_int first_of by_differences exact_of numerator same_exact times c g l s total terms next divided run whole_run position_predictor position_corrector velocity_predictor velocity_corrector older_part rounded_of any motion_of still older_motion present_motion predicted_motion corrected_motion kept_samples advanced_axis opened_axis same_motion in_range change_of sizes agrees_on remainders_hold samples_small empty_zero older_holds places_hold points_hold settings_hold nowhere present_point estimate_of predicted_point corrected_point point_in_range points_agree point_change awaiting_at accepted_at opened_session closed_session counts_hold same_point settled_holds estimate_begins awaiting_holds holds settled awaiting reported_motion reported_point reported_change no_point no_change exact_point axis_samples opened_with open_refusal full predict_refusal agrees largest_change is_last correct_refusal open_of predict_of correct_of less_before cut earlier_position earlier_velocity has_centre next_sums back_sums run_on run_back newest_sums earlier_motion centre_sums started_axis held_round sums_zero older_zero epoch_holds axis_starts axes_start start_holds starting starting_axis starting_session opened_round round_of earlier_point every_below largest_below round_in_range rounds_agree largest_move points_from round_points no_points given_round start_refusal later_round refine_refusal start_of refine_of
computed =
    record {
      points = refl;
      first = refl;
      second = refl;
      awaits = refl;
      one_again = refl;
      opens = refl;
      three_points = refl;
      point0 = refl;
      samples = refl;
      samples_there = refl;
      samples_loose = refl;
      older = refl;
    }
