-- The whole table holds, shown by computing.
use mathlib.Core.Path.{refl}
use mathlib.Core.List.{◌++◌}
use lib.Ieee.{of_int, of_bits}
use Rattle.integers.specs.Lines.{All, all_of}
use Rattle.integers.specs.Differences.{by_differences}
use Rattle.rules.specs.Rules.{first_of}
use Rattle.exact.specs.Numerator.{exact_of, numerator, same_exact}
use Rattle.coefficients.specs.Fraction.{times}
use Rattle.coefficients.specs.Rules.{c, g, l, s, total, terms, next, divided}
use Rattle.coefficients.specs.Scaled.{run, whole_run}
use Rattle.coefficients.specs.Formulas.{position_predictor, position_corrector, velocity_predictor, velocity_corrector, older_part}
use Rattle.ticks.specs.Round.{rounded_of}
use Rattle.ticks.specs.Samples.{any}
use Rattle.axis.specs.Formulas.{motion_of, still, present_motion, predicted_motion, corrected_motion, kept_samples, advanced_axis, opened_axis, empty_axis, older_motion}
use Rattle.axis.specs.Estimates.{same_motion, in_range}
use Rattle.axis.specs.Agreement.{sizes}
use Rattle.axis.specs.Holding.{remainders_hold, samples_small, empty_zero, older_holds, places_hold}
use Rattle.session.specs.Numbers.{points_hold, settings_hold}
use Rattle.session.specs.Moves.{nowhere, present_point, estimate_of, predicted_point, corrected_point, point_in_range, settled_again, awaiting_at, accepted_at, opened_session, closed_session}
use Rattle.session.specs.Apart.{points_agree, point_change}
use Rattle.session.specs.Holding.{counts_hold, same_point, settled_holds, estimate_begins, awaiting_holds, holds, settled, awaiting}
use Rattle.session.specs.Requests.{exact_point}
use Rattle.steps.specs.Answers.{reported_motion, reported_point, reported_change, no_point, no_change}
use Rattle.steps.specs.Opening.{axis_samples, opened_with}
use Rattle.steps.specs.Refusals.{open_refusal, full, predict_refusal, agrees, largest_change, is_last, correct_refusal, withdraw_refusal}
use Rattle.steps.specs.Steps.{open_of, predict_of, correct_of, withdraw_of}
use Rattle.epoch_coefficients.specs.Formulas.{less_before, cut, earlier_position, earlier_velocity, has_centre}
use Rattle.epoch_axis.specs.Formulas.{next_sums, back_sums, run_on, run_back, newest_sums, earlier_motion, centre_sums, started_axis}
use Rattle.epoch_session.specs.Records.{held_round, sums_zero, older_zero, epoch_holds, axis_starts, axes_start, start_holds, starting, starting_axis, starting_session, opened_round}
use Rattle.epoch_session.specs.Rounds.{round_of, earlier_point, every_below, largest_below, round_in_range, rounds_agree, largest_move}
use Rattle.epoch_steps.specs.Answers.{points_from, round_points, no_points}
use Rattle.epoch_steps.specs.Refusals.{given_round, start_refusal, later_round, refine_refusal}
use Rattle.epoch_steps.specs.Steps.{start_of, refine_of}
use Rattle.worked.specs.Filled.{numbers, values, older_sums, states}
use Rattle.worked.specs.Starting.{settings, axes}
use Rattle.worked.specs.Refused.{openings, predictions, corrections, first_rounds, later_rounds}
use Rattle.worked.specs.Steps3 as Steps3
use Rattle.worked.specs.Steps9 as Steps9
use Rattle.worked.specs.Rounds3 as Rounds3
use Rattle.worked.specs.Rounds9 as Rounds9
use Rattle.worked.specs.Table.{filled_records, refusals, steps, rounds, worked}
use Rattle.worked.proofs.Nine.{nine-hold}

record Computed : Type 0 where
  of-numbers : All numbers
  of_values : All values
  of-older_sums : All older_sums
  of-states : All states
  of-settings : All settings
  of-axes : All axes
  of-openings : All openings
  of-predictions : All predictions
  of-corrections : All corrections
  of-first_rounds : All first_rounds
  of-later_rounds : All later_rounds
  of-steps-3 : All Steps3.rows
  of-steps-9 : All Steps9.rows
  of-rounds-3 : All Rounds3.rows

computed : Computed
unfolding of_int of_bits first_of by_differences exact_of numerator same_exact times c g l s total terms next divided run whole_run position_predictor position_corrector velocity_predictor velocity_corrector older_part rounded_of any motion_of still older_motion present_motion predicted_motion corrected_motion kept_samples advanced_axis opened_axis empty_axis same_motion in_range sizes remainders_hold samples_small empty_zero older_holds points_hold settings_hold nowhere present_point estimate_of predicted_point corrected_point point_in_range points_agree point_change settled_again awaiting_at accepted_at opened_session closed_session counts_hold same_point settled_holds estimate_begins awaiting_holds holds settled awaiting reported_motion reported_point reported_change no_point no_change exact_point axis_samples opened_with open_refusal full predict_refusal agrees largest_change is_last correct_refusal open_of predict_of correct_of places_hold less_before cut earlier_position earlier_velocity has_centre next_sums back_sums run_on run_back newest_sums earlier_motion centre_sums started_axis held_round sums_zero older_zero epoch_holds axis_starts axes_start start_holds starting starting_axis starting_session opened_round round_of earlier_point every_below largest_below round_in_range rounds_agree largest_move points_from round_points no_points given_round start_refusal later_round refine_refusal start_of refine_of withdraw_of withdraw_refusal
computed =
    record {
      of-numbers = (refl, (refl, (refl, (refl, (refl, (refl, (refl, (refl, (refl, (refl, (refl, (refl, (refl, (refl, (refl, (refl, (refl, (refl, (refl, (refl, (refl, (refl, tt))))))))))))))))))))));
      of_values = (refl, (refl, (refl, (refl, (refl, (refl, (refl, (refl, (refl, (refl, (refl, (refl, (refl, (refl, (refl, (refl, (refl, (refl, (refl, (refl, (refl, (refl, tt))))))))))))))))))))));
      of-older_sums = (refl, (refl, (refl, (refl, (refl, (refl, (refl, (refl, (refl, (refl, (refl, (refl, tt))))))))))));
      of-states = (refl, (refl, (refl, (refl, (refl, (refl, (refl, (refl, (refl, (refl, (refl, (refl, (refl, (refl, (refl, (refl, tt))))))))))))))));
      of-settings = (refl, (refl, (refl, (refl, (refl, (refl, (refl, (refl, (refl, (refl, (refl, (refl, (refl, (refl, (refl, (refl, (refl, (refl, (refl, (refl, (refl, (refl, (refl, (refl, tt))))))))))))))))))))))));
      of-axes = (refl, (refl, (refl, (refl, (refl, (refl, (refl, (refl, (refl, (refl, (refl, (refl, (refl, (refl, (refl, (refl, (refl, (refl, (refl, (refl, (refl, (refl, (refl, (refl, (refl, (refl, (refl, (refl, tt))))))))))))))))))))))))))));
      of-openings = (refl, (refl, (refl, (refl, (refl, (refl, (refl, (refl, (refl, (refl, (refl, (refl, (refl, (refl, (refl, (refl, (refl, tt)))))))))))))))));
      of-predictions = (refl, (refl, (refl, (refl, tt))));
      of-corrections = (refl, (refl, (refl, (refl, (refl, (refl, (refl, (refl, (refl, (refl, (refl, (refl, (refl, (refl, (refl, (refl, (refl, (refl, (refl, tt)))))))))))))))))));
      of-first_rounds = (refl, (refl, (refl, (refl, (refl, (refl, (refl, (refl, (refl, (refl, (refl, (refl, (refl, (refl, (refl, (refl, (refl, (refl, (refl, tt)))))))))))))))))));
      of-later_rounds = (refl, (refl, (refl, (refl, (refl, (refl, (refl, (refl, (refl, (refl, (refl, tt)))))))))));
      of-steps-3 = (refl, (refl, (refl, (refl, (refl, (refl, tt))))));
      of-steps-9 = (refl, (refl, (refl, (refl, (refl, (refl, tt))))));
      of-rounds-3 = (refl, (refl, (refl, tt)));
    }

filled-hold : All filled_records
filled-hold =
    all_of numbers (values ++ older_sums ++ states ++ settings ++ axes) computed.of-numbers
    (all_of values (older_sums ++ states ++ settings ++ axes) computed.of_values
    (all_of older_sums (states ++ settings ++ axes) computed.of-older_sums
    (all_of states (settings ++ axes) computed.of-states
    (all_of settings axes computed.of-settings computed.of-axes))))

refusals-hold : All refusals
refusals-hold =
    all_of openings (predictions ++ corrections ++ first_rounds ++ later_rounds) computed.of-openings
    (all_of predictions (corrections ++ first_rounds ++ later_rounds) computed.of-predictions
    (all_of corrections (first_rounds ++ later_rounds) computed.of-corrections
    (all_of first_rounds later_rounds computed.of-first_rounds computed.of-later_rounds)))

steps-hold : All steps
steps-hold = all_of Steps3.rows Steps9.rows computed.of-steps-3 computed.of-steps-9

rounds-hold : All rounds
rounds-hold = all_of Rounds3.rows Rounds9.rows computed.of-rounds-3 nine-hold

pub worked-hold : All worked
worked-hold =
    all_of filled_records (refusals ++ steps ++ rounds) filled-hold
    (all_of refusals (steps ++ rounds) refusals-hold
    (all_of steps rounds steps-hold rounds-hold))
