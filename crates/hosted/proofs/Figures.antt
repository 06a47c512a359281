-- The calls that are worked out are what the definitions give, shown by computing.
use mathlib.Core.Path.{refl}
use lib.Ieee.{add, div, of_int, of_bits, to_bits}
use Rattle.integers.specs.Lines.{All}
use Rattle.integers.specs.Differences.{by_differences}
use Rattle.rules.specs.Rules.{first_of}
use Rattle.exact.specs.Numerator.{exact_of, numerator, same_exact}
use Rattle.coefficients.specs.Fraction.{times}
use Rattle.coefficients.specs.Rules.{c, g, l, s, total, terms, next, divided}
use Rattle.coefficients.specs.Scaled.{run, whole_run}
use Rattle.coefficients.specs.Formulas.{position_predictor, position_corrector, velocity_predictor, velocity_corrector, older_part}
use Rattle.ticks.specs.Round.{rounded_of}
use Rattle.ticks.specs.Samples.{any}
use Rattle.axis.specs.Formulas.{motion_of, still, present_motion, predicted_motion, corrected_motion, kept_samples, advanced_axis, opened_axis, empty_axis, older_motion}
use Rattle.axis.specs.Estimates.{same_motion, in_range}
use Rattle.axis.specs.Agreement.{change_of, sizes, agrees_on}
use Rattle.axis.specs.Holding.{remainders_hold, samples_small, empty_zero, older_holds}
use Rattle.session.specs.Numbers.{points_hold, settings_hold}
use Rattle.session.specs.Moves.{nowhere, present_point, estimate_of, predicted_point, corrected_point, point_in_range, settled_again, awaiting_at, accepted_at, opened_session, closed_session}
use Rattle.session.specs.Apart.{points_agree, point_change}
use Rattle.session.specs.Holding.{counts_hold, same_point, settled_holds, estimate_begins, awaiting_holds, holds, settled, awaiting}
use Rattle.session.specs.Requests.{exact_point}
use Rattle.epoch_session.specs.Records.{starting}
use Rattle.steps.specs.Answers.{reported_motion, reported_point, reported_change, no_point, no_change}
use Rattle.steps.specs.Opening.{axis_samples, opened_with}
use Rattle.steps.specs.Refusals.{open_refusal, full, predict_refusal, agrees, largest_change, is_last, correct_refusal, withdraw_refusal}
use Rattle.steps.specs.Steps.{open_of, predict_of, correct_of, withdraw_of}
use Rattle.image.specs.Bytes.{bytes_of, in_bytes, from_bytes, word_at, same_bytes}
use Rattle.image.specs.Layout.{exact_words, motion_words, settings_words, axis_sums, sums_words, place_words, places_words, estimate_words, contents, record_words, record_bytes}
use Rattle.image.specs.Standing.{stands, standing, image_of}
use Rattle.image.specs.Reading.{exact_at, motion_at, samples_at, axis_at, state_of, tolerances_at, session_in, held_in, is_image}
use Rattle.host.specs.Answers.{reported_words, motion_reported, point_reported, answer_words, answer_bytes}
use Rattle.host.specs.Samples.{floats_in, float_count}
use Rattle.host.specs.Calls.{host_open, on_image}
use Rattle.hosted.specs.Figures.{figures}

pub as-worked : All figures
unfolding add div of_int of_bits to_bits first_of by_differences exact_of numerator same_exact times c g l s total terms next divided run whole_run position_predictor position_corrector velocity_predictor velocity_corrector older_part rounded_of any motion_of still older_motion present_motion predicted_motion corrected_motion kept_samples advanced_axis opened_axis empty_axis same_motion in_range change_of sizes agrees_on remainders_hold samples_small empty_zero older_holds points_hold settings_hold nowhere present_point estimate_of predicted_point corrected_point point_in_range points_agree point_change settled_again awaiting_at accepted_at opened_session closed_session counts_hold same_point settled_holds estimate_begins awaiting_holds holds settled awaiting starting reported_motion reported_point reported_change no_point no_change exact_point axis_samples opened_with open_refusal full predict_refusal agrees largest_change is_last correct_refusal withdraw_refusal open_of predict_of correct_of withdraw_of bytes_of in_bytes from_bytes word_at same_bytes exact_words motion_words settings_words axis_sums sums_words place_words places_words estimate_words contents record_words record_bytes stands standing image_of exact_at motion_at samples_at axis_at state_of tolerances_at session_in held_in is_image reported_words motion_reported point_reported answer_words answer_bytes floats_in float_count host_open on_image
as-worked = (refl, (refl, (refl, (refl, (refl, (refl, (refl, (refl, tt))))))))
