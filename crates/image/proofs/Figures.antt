-- The images that are written out are what the definitions give, shown by computing.
use mathlib.Core.Path.{◌≡◌, refl}
use mathlib.Core.List.{◌++◌}
use lib.ListN.{replicate}
use Rattle.integers.specs.Lines.{All}
use Rattle.integers.specs.Differences.{by_differences}
use Rattle.exact.specs.Numerator.{exact_of, numerator, same_exact}
use Rattle.coefficients.specs.Fraction.{times}
use Rattle.coefficients.specs.Rules.{c, l, total, terms, next, divided}
use Rattle.coefficients.specs.Scaled.{run, whole_run}
use Rattle.coefficients.specs.Formulas.{position_corrector, velocity_corrector, older_part}
use Rattle.epoch_coefficients.specs.Formulas.{less_before, cut, earlier_position, earlier_velocity, has_centre}
use Rattle.axis.specs.Formulas.{motion_of, still, present_motion, opened_axis, empty_axis, older_motion}
use Rattle.axis.specs.Estimates.{same_motion, in_range}
use Rattle.axis.specs.Holding.{remainders_hold, samples_small, empty_zero, older_holds, places_hold}
use Rattle.epoch_axis.specs.Formulas.{next_sums, back_sums, run_on, run_back, newest_sums, earlier_motion, centre_sums, started_axis}
use Rattle.session.specs.Numbers.{points_hold, settings_hold}
use Rattle.session.specs.Moves.{nowhere, present_point, estimate_of, point_in_range, opened_session, closed_session}
use Rattle.session.specs.Holding.{counts_hold, same_point, settled_holds, estimate_begins, awaiting_holds, holds, settled, awaiting}
use Rattle.session.specs.Requests.{exact_point}
use Rattle.epoch_session.specs.Rounds.{round_of, earlier_point, every_below, round_in_range}
use Rattle.epoch_session.specs.Records.{held_round, sums_zero, older_zero, epoch_holds, axis_starts, axes_start, start_holds, starting, starting_axis, starting_session}
use Rattle.image.specs.Bytes.{bytes_of, in_bytes, from_bytes, word_at, same_bytes}
use Rattle.image.specs.Layout.{exact_words, motion_words, settings_words, axis_sums, sums_words, place_words, places_words, estimate_words, contents, record_words, record_bytes}
use Rattle.image.specs.Standing.{stands, standing, image_of}
use Rattle.image.specs.Reading.{exact_at, motion_at, samples_at, axis_at, state_of, tolerances_at, session_in, held_in, is_image, read_of}
use Rattle.image.specs.Figures.{figures}

pub closed-image : image_of closed_session ≡ in_bytes contents ++ replicate 560 0
unfolding closed_session empty_axis still motion_of exact_of stands standing settled awaiting starting image_of record_bytes record_words in_bytes bytes_of contents settings_words sums_words axis_sums exact_words motion_words places_words place_words estimate_words
closed-image = refl

pub as_written : All figures
unfolding by_differences exact_of numerator same_exact times c l total terms next divided run whole_run position_corrector velocity_corrector older_part motion_of still present_motion opened_axis empty_axis older_motion same_motion in_range remainders_hold samples_small empty_zero older_holds points_hold settings_hold nowhere present_point estimate_of point_in_range opened_session closed_session counts_hold same_point settled_holds estimate_begins awaiting_holds holds settled awaiting exact_point less_before cut earlier_position earlier_velocity has_centre places_hold next_sums back_sums run_on run_back newest_sums earlier_motion centre_sums started_axis round_of earlier_point every_below round_in_range held_round sums_zero older_zero epoch_holds axis_starts axes_start start_holds starting starting_axis starting_session bytes_of in_bytes from_bytes word_at same_bytes exact_words motion_words settings_words axis_sums sums_words place_words places_words estimate_words contents record_words record_bytes stands standing image_of exact_at motion_at samples_at axis_at state_of tolerances_at session_in held_in is_image read_of
as_written = (refl, (refl, (refl, (refl, (refl, (refl, (refl, (refl, (refl, (refl, (refl, (refl, (refl, (refl, (refl, (refl, (refl, (refl, tt))))))))))))))))))
