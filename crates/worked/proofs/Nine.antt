-- The rounds of nine points hold: each call in its pieces.
use mathlib.Core.Path.{◌≡◌, refl, ap, ◌∙◌}
use mathlib.Core.Bool.{true, false, not}
use mathlib.Core.List.{[], ◌∷◌}
use lib.Ieee.{of_int}
use Rattle.integers.specs.Differences.{by_differences}
use Rattle.integers.specs.Lines.{All}
use Rattle.rules.specs.Rules.{first_of}
use Rattle.exact.specs.Numerator.{exact_of, numerator, same_exact}
use Rattle.coefficients.specs.Fraction.{times}
use Rattle.coefficients.specs.Rules.{c, l, total, terms, next, divided}
use Rattle.coefficients.specs.Scaled.{run, whole_run}
use Rattle.coefficients.specs.Formulas.{position_corrector, velocity_corrector, older_part}
use Rattle.ticks.specs.Round.{rounded_of}
use Rattle.ticks.specs.Samples.{any}
use Rattle.axis.specs.Formulas.{motion_of, still, older_motion}
use Rattle.axis.specs.Estimates.{same_motion, in_range}
use Rattle.axis.specs.Agreement.{sizes}
use Rattle.axis.specs.Holding.{places_hold}
use Rattle.session.specs.Numbers.{points_hold, settings_hold}
use Rattle.session.specs.Moves.{nowhere, estimate_of, point_in_range, closed_session}
use Rattle.session.specs.Apart.{points_agree, point_change}
use Rattle.session.specs.Requests.{exact_point}
use Rattle.steps.specs.Answers.{reported_motion, reported_point, reported_change, no_point, no_change}
use Rattle.steps.specs.Opening.{axis_samples}
use Rattle.steps.specs.Refusals.{is_last}
use Rattle.epoch_coefficients.specs.Formulas.{less_before, cut, earlier_position, earlier_velocity, has_centre}
use Rattle.epoch_axis.specs.Formulas.{next_sums, back_sums, run_on, run_back, newest_sums, earlier_motion, centre_sums, started_axis}
use Rattle.epoch_session.specs.Records.{held_round, sums_zero, older_zero, epoch_holds, axis_starts, axes_start, start_holds, starting, starting_axis, starting_session, opened_round}
use Rattle.epoch_session.specs.Rounds.{round_of, earlier_point, every_below, largest_below, round_in_range, rounds_agree, largest_move}
use Rattle.epoch_steps.specs.Answers.{points_from, round_points}
use Rattle.epoch_steps.specs.Refusals.{first_round, given_round, start_refusal, later_round}
use Rattle.epoch_steps.specs.Steps.{start_by}
use Rattle.worked.specs.Shown.{none, shows, of_round}
use Rattle.worked.specs.Rounds9.{epoch, between, opens, first, first_track, second_floats, second, second_track, moved, third_floats, third, third_track, rows}
use Rattle.worked.proofs.Pieces.{Pieces, first-shows, judged_from, later-shows}

-- the axes of each round, by the call and by the record that was left; that they are in range and whether they agree; and what a call shows of them
record Computed : Type 0 where
  round-1 : first_round epoch ≡ first
  round-2 : later_round (between 0 first) second_floats ≡ second
  round-3 : later_round (between 1 second) third_floats ≡ third
  held-1 : held_round (between 0 first) ≡ first
  held-2 : held_round (between 1 second) ≡ second
  inside-1 : round_in_range first ≡ true
  inside-2 : round_in_range second ≡ true
  inside-3 : round_in_range third ≡ true
  agrees-2 : rounds_agree epoch.tolerances second first ≡ false
  agrees-3 : rounds_agree epoch.tolerances third second ≡ true
  shown-1 : of_round (start_by 0 epoch.tolerances epoch.limit (exact_point epoch.point) first) ≡ shows 0 2 first_track none (between 0 first)
  shown-2 : of_round (judged_from false (between 0 first) first second) ≡ shows 0 2 second_track moved (between 1 second)
  shown-3 : of_round (judged_from true (between 1 second) second third) ≡ shows 0 3 third_track none (opens third)

computed : Computed
unfolding of_int by_differences exact_of numerator times c l total terms next divided run whole_run position_corrector velocity_corrector older_part rounded_of less_before cut earlier_position earlier_velocity motion_of still older_motion sizes nowhere exact_point estimate_of point_in_range points_agree point_change closed_session reported_motion reported_point reported_change no_point no_change axis_samples next_sums back_sums run_on run_back newest_sums earlier_motion centre_sums started_axis round_of earlier_point every_below largest_below round_in_range rounds_agree largest_move held_round starting_axis starting_session opened_round points_from round_points given_round later_round
computed =
    record {
      round-1 = refl;
      round-2 = refl;
      round-3 = refl;
      held-1 = refl;
      held-2 = refl;
      inside-1 = refl;
      inside-2 = refl;
      inside-3 = refl;
      agrees-2 = refl;
      agrees-3 = refl;
      shown-1 = refl;
      shown-2 = refl;
      shown-3 = refl;
    }

unrefused-1 : start_refusal epoch ≡ 0
unfolding of_int first_of rounded_of any points_hold settings_hold point_in_range exact_point has_centre start_refusal
unrefused-1 = ap (λ t. first_of ((not t, 6) ∷ [])) (ap round_in_range computed.round-1 ∙ computed.inside-1)

holds-1 : starting (between 0 first) ≡ true
unfolding exact_of same_exact motion_of still same_motion in_range places_hold settings_hold has_centre sums_zero older_zero epoch_holds axis_starts axes_start start_holds starting
holds-1 = ap round_in_range computed.held-1 ∙ computed.inside-1

holds-2 : starting (between 1 second) ≡ true
unfolding exact_of same_exact motion_of still same_motion in_range places_hold settings_hold has_centre sums_zero older_zero epoch_holds axis_starts axes_start start_holds starting
holds-2 = ap round_in_range computed.held-2 ∙ computed.inside-2

pieces-2 : Pieces (between 0 first) second_floats first second false
unfolding of_int first_of rounded_of any is_last
pieces-2 =
    record {
      holds = holds-1;
      held = computed.held-1;
      worked = computed.round-2;
      inside = computed.inside-2;
      agrees = computed.agrees-2;
      unrefused = refl;
    }

pieces-3 : Pieces (between 1 second) third_floats second third true
unfolding of_int first_of rounded_of any is_last
pieces-3 =
    record {
      holds = holds-2;
      held = computed.held-2;
      worked = computed.round-3;
      inside = computed.inside-3;
      agrees = computed.agrees-3;
      unrefused = refl;
    }

pub nine-hold : All rows
nine-hold = (
  ap of_round (first-shows epoch first computed.round-1 unrefused-1) ∙ computed.shown-1,
  (
    ap of_round (later-shows (between 0 first) second_floats first second false pieces-2) ∙ computed.shown-2,
    (ap of_round (later-shows (between 1 second) third_floats second third true pieces-3) ∙ computed.shown-3, tt),
  ),
)
