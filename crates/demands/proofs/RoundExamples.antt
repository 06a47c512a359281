-- A start with p 3: epoch 1000 with velocity 10, samples of 12, and then samples of 12 or of 24; and what the definitions compute there.
use mathlib.Core.Path.{◌≡◌, refl}
use mathlib.Core.Bool.{true, false}
use mathlib.Core.List.{List, [], ◌∷◌}
use Prim.Native.Nat.{ℕ, ◌*◌}
use lib.IntN.{ℤ, pos, nat_abs, ◌-ℤ◌}
use lib.Ieee.{Float, binary64, add, div, of_int}
use Rattle.rules.specs.Rules.{first_of}
use Rattle.integers.specs.Differences.{by_differences}
use Rattle.exact.specs.Numerator.{D, exact_of, numerator, same_exact}
use Rattle.coefficients.specs.Fraction.{times}
use Rattle.coefficients.specs.Rules.{c, l, total, terms, next, divided}
use Rattle.coefficients.specs.Scaled.{run, whole_run}
use Rattle.coefficients.specs.Formulas.{position_corrector, velocity_corrector, older_part}
use Rattle.ticks.specs.Round.{rounded_of}
use Rattle.ticks.specs.Samples.{any}
use Rattle.epoch_coefficients.specs.Formulas.{less_before, cut, earlier_position, earlier_velocity, has_centre}
use Rattle.axis.specs.Formulas.{motion_of, still, older_motion}
use Rattle.axis.specs.declared.Tolerances.{Tolerances}
use Rattle.axis.specs.Estimates.{same_motion, in_range}
use Rattle.axis.specs.Agreement.{change_of, sizes, agrees_on}
use Rattle.axis.specs.Holding.{samples_small, empty_zero, places_hold}
use Rattle.epoch_axis.specs.Formulas.{next_sums, back_sums, run_on, run_back, newest_sums, earlier_motion, centre_sums, started_axis}
use Rattle.session.specs.declared.Session.{Session}
use Rattle.session.specs.Numbers.{points_hold, settings_hold}
use Rattle.session.specs.Moves.{nowhere, estimate_of, point_in_range, closed_session}
use Rattle.session.specs.Apart.{points_agree, point_change}
use Rattle.steps.specs.Answers.{reported_motion, reported_point, reported_change, no_point, no_change}
use Rattle.session.specs.Requests.{exact_point, Request}
use Rattle.steps.specs.Opening.{axis_samples}
use Rattle.steps.specs.Refusals.{open_refusal, is_last}
use Rattle.steps.specs.Steps.{open_of}
use Rattle.epoch_session.specs.Rounds.{round_of, earlier_point, every_below, largest_below, round_in_range, rounds_agree, largest_move}
use Rattle.epoch_session.specs.Records.{held_round, sums_zero, older_zero, epoch_holds, axis_starts, axes_start, start_holds, starting, starting_axis, starting_session, opened_round}
use Rattle.epoch_steps.specs.declared.Outcome.{Outcome}
use Rattle.epoch_steps.specs.declared.Outcome.TheVariants as R
use Rattle.epoch_steps.specs.Answers.{points_from, round_points, no_points}
use Rattle.epoch_steps.specs.Refusals.{given_round, start_refusal, later_round, refine_refusal}
use Rattle.epoch_steps.specs.Steps.{start_of, refine_of}
use Rattle.demands.specs.Coordinates.{position_of}
use Rattle.session.specs.Coordinates.{on_x}
use Rattle.demands.specs.Histories.{ours, Call, refine, after, history, mores}
use Rattle.demands.specs.BadVersions.{opening_at_once, opening_anyhow, never_counting, ignoring_velocities_of_rounds, keeping_starts}
use Rattle.demands.proofs.Examples.{state_number}
use Rattle.std.specs.Prelude.{Ok}

-- ---- the session

abbrev pub float : ℤ → Float
float n = of_int binary64 n

-- three samples of n on x
abbrev pub force : ℤ → List Float
force n = float n ∷ float (pos 0) ∷ float (pos 0) ∷ float n ∷ float (pos 0) ∷ float (pos 0) ∷ float n ∷ float (pos 0) ∷ float (pos 0) ∷ []

-- a request with p and two tolerances, from a position and a velocity on x, with samples of n
abbrev pub requested : ℕ → Tolerances → ℤ → ℤ → ℤ → Request
requested p tolerances x v n =
    record { points = p; tolerances = tolerances; limit = 2; point = record { x = x; y = pos 0; z = pos 0; vx = v; vy = pos 0; vz = pos 0 }; floats = force n }

-- no position may move, and a velocity as far as any
abbrev pub strict : Tolerances
strict = record { position = 0; velocity = 1048576 }

abbrev pub first : Request
first = requested 3 strict (pos 1000) (pos 10) (pos 12)

-- an even p
abbrev pub even : Request
even = requested 2 strict (pos 1000) (pos 10) (pos 12)

-- what `open` is given at the point one step after the epoch, 1000 + 10 + 6 with velocity 10 + 12
abbrev pub newest : Request
newest = requested 3 strict (pos 1016) (pos 22) (pos 12)

-- after the first round, and after a later one that moved
abbrev pub begun : Session
begun = (ours.starts closed_session first).session

abbrev pub moved : List Call
moved = refine (force (pos 24)) ∷ []

abbrev pub again : Session
again = after ours begun moved

-- the other way round: the velocities of the outer points move by 12 ticks and may by 11
abbrev pub turning : Session
turning = (ours.starts closed_session (requested 3 (record { position = 1048576; velocity = 11 }) (pos 1000) (pos 10) (pos 12))).session

-- ---- what the definitions compute there

abbrev pub kind : Outcome → ℕ
kind (R.More c) = 2
kind R.Opened = 3
kind (R.Refused n) = 0

pub record Computed : Type 0 where
  pub unrefused : start_refusal first ≡ 0
  pub tenth : start_refusal even ≡ 10
  -- the same samples open it, others ask for more, and then for the last time
  pub opens : (refine_of begun (force (pos 12))).answer.outcome ≡ R.Opened
  pub unrefused_same : refine_refusal begun (force (pos 12)) ≡ 0
  pub unrefused_other : refine_refusal begun (force (pos 24)) ≡ 0
  pub asks_more : kind (refine_of begun (force (pos 24))).answer.outcome ≡ 2
  pub once : mores 0 (history ours begun moved) ≡ 1
  pub again_starting : starting again ≡ true
  pub eighth : refine_refusal again (force (pos 12)) ≡ 8
  pub second : refine_refusal begun [] ≡ 2
  -- nothing moved there, and the point where it opens is whole
  pub agreed : rounds_agree begun.tolerances (later_round begun (force (pos 12))) (held_round begun) ≡ true
  pub opened : (ours.opens closed_session newest).answer ≡ Ok tt
  pub point0 : earlier_point (later_round begun (force (pos 12))) 0 ≡ exact_point newest.point
  pub points : begun.points ≡ 3
  pub tolerances : begun.tolerances ≡ strict
  -- a later round of 24 moves the newest point by 6 ticks
  pub far : nat_abs (position_of on_x (earlier_point (later_round begun (force (pos 24))) 0) -ℤ position_of on_x (earlier_point (held_round begun) 0)) ≡ 6 * D
  -- the bad versions there
  pub at_once : (opening_at_once.starts closed_session first).answer.outcome ≡ R.Opened
  pub at_once_state : state_number (opening_at_once.starts closed_session first).session.state ≡ 1
  pub anyhow : (opening_anyhow.refines begun (force (pos 24))).answer.outcome ≡ R.Opened
  pub turns_more : refine_refusal turning (force (pos 24)) ≡ 0
  pub turned : rounds_agree turning.tolerances (later_round turning (force (pos 24))) (held_round turning) ≡ false
  pub ignored : (ignoring_velocities_of_rounds.refines turning (force (pos 24))).answer.outcome ≡ R.Opened
  pub kept_start : state_number (keeping_starts.starts begun even).session.state ≡ 3
  pub closed_state : state_number closed_session.state ≡ 0
  pub still_starting : starting (after never_counting begun moved) ≡ true
  pub not_counted : (after never_counting begun moved).corrections ≡ 0
  pub counted_once : mores 0 (history never_counting begun moved) ≡ 1

pub computed : Computed
unfolding add div of_int first_of by_differences exact_of numerator same_exact times c l total terms next divided run whole_run position_corrector velocity_corrector older_part rounded_of any motion_of still older_motion same_motion in_range change_of sizes agrees_on samples_small empty_zero places_hold points_hold settings_hold nowhere estimate_of point_in_range points_agree point_change closed_session reported_motion reported_point reported_change no_point no_change exact_point axis_samples open_refusal open_of is_last less_before cut earlier_position earlier_velocity has_centre next_sums back_sums run_on run_back newest_sums earlier_motion centre_sums started_axis held_round sums_zero older_zero epoch_holds axis_starts axes_start start_holds starting starting_axis starting_session opened_round round_of earlier_point every_below largest_below round_in_range rounds_agree largest_move points_from round_points no_points given_round start_refusal later_round refine_refusal start_of refine_of
computed =
    record {
      unrefused = refl;
      tenth = refl;
      opens = refl;
      unrefused_same = refl;
      unrefused_other = refl;
      asks_more = refl;
      once = refl;
      again_starting = refl;
      eighth = refl;
      second = refl;
      agreed = refl;
      opened = refl;
      point0 = refl;
      points = refl;
      tolerances = refl;
      far = refl;
      at_once = refl;
      at_once_state = refl;
      anyhow = refl;
      turns_more = refl;
      turned = refl;
      ignored = refl;
      kept_start = refl;
      closed_state = refl;
      still_starting = refl;
      not_counted = refl;
      counted_once = refl;
    }
