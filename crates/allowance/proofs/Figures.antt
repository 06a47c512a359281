-- The runs that are worked out are what the definitions give, shown by computing.
use mathlib.Core.Path.{refl}
use lib.Ieee.{add, div, of_int}
use Rattle.integers.specs.Lines.{All}
use Rattle.rules.specs.Rules.{first_of}
use Rattle.integers.specs.Differences.{by_differences}
use Rattle.exact.specs.Numerator.{exact_of, numerator, same_exact}
use Rattle.coefficients.specs.Fraction.{times}
use Rattle.coefficients.specs.Rules.{c, g, l, s, total, terms, next, divided}
use Rattle.coefficients.specs.Scaled.{run, whole_run}
use Rattle.coefficients.specs.Formulas.{position_predictor, position_corrector, velocity_predictor, velocity_corrector, older_part}
use Rattle.ticks.specs.Round.{rounded_of}
use Rattle.ticks.specs.Samples.{any}
use Rattle.axis.specs.Formulas.{motion_of, still, present_motion, predicted_motion, corrected_motion, kept_samples, advanced_axis, opened_axis, empty_axis, older_motion}
use Rattle.axis.specs.Estimates.{same_motion, in_range}
use Rattle.axis.specs.Agreement.{change_of, sizes, agrees_on}
use Rattle.axis.specs.Holding.{remainders_hold, samples_small, empty_zero, older_holds}
use Rattle.session.specs.Numbers.{points_hold, settings_hold}
use Rattle.session.specs.Moves.{nowhere, present_point, estimate_of, predicted_point, corrected_point, point_in_range, settled_again, awaiting_at, accepted_at, opened_session, closed_session}
use Rattle.session.specs.Apart.{points_agree, point_change}
use Rattle.session.specs.Holding.{counts_hold, same_point, settled_holds, estimate_begins, awaiting_holds, holds, settled, awaiting}
use Rattle.steps.specs.Answers.{reported_motion, reported_point, reported_change, no_point, no_change}
use Rattle.session.specs.Requests.{exact_point}
use Rattle.steps.specs.Opening.{axis_samples, opened_with}
use Rattle.steps.specs.Refusals.{open_refusal, full, predict_refusal, agrees, largest_change, is_last, correct_refusal}
use Rattle.steps.specs.Steps.{open_of, predict_of, correct_of}
use Rattle.running.specs.Samples.{samples_in}
use Rattle.running.specs.Runs.{taken, over, on, run_refusal, run_of}
use Rattle.allowance.specs.Figures.{figures}

pub as-worked : All figures
unfolding add div of_int first_of by_differences exact_of numerator same_exact times c g l s total terms next divided run whole_run position_predictor position_corrector velocity_predictor velocity_corrector older_part rounded_of any motion_of still older_motion present_motion predicted_motion corrected_motion kept_samples advanced_axis opened_axis empty_axis same_motion in_range change_of sizes agrees_on remainders_hold samples_small empty_zero older_holds points_hold settings_hold nowhere present_point estimate_of predicted_point corrected_point point_in_range points_agree point_change settled_again awaiting_at accepted_at opened_session closed_session counts_hold same_point settled_holds estimate_begins awaiting_holds holds settled awaiting reported_motion reported_point reported_change no_point no_change exact_point axis_samples opened_with open_refusal full predict_refusal agrees largest_change is_last correct_refusal open_of predict_of correct_of samples_in taken over on run_refusal run_of
as-worked = (refl, (refl, (refl, (refl, (refl, (refl, (refl, (refl, (refl, (refl, (refl, (refl, (refl, (refl, (refl, (refl, (refl, (refl, (refl, (refl, (refl, (refl, (refl, tt)))))))))))))))))))))))
