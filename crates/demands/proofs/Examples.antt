-- The session of the figures H3 to H7, p 1, position 1000, velocity 10, sample 12, and then samples of 24, and what the definitions compute there.
use mathlib.Core.Path.{◌≡◌, refl}
use mathlib.Core.Bool.{true, false}
use mathlib.Core.List.{List, [], ◌∷◌}
use Prim.Native.Nat.{ℕ, ◌*◌}
use lib.IntN.{ℤ, pos, neg_ℤ}
use lib.ListN.{length}
use lib.Ieee.{Float, binary64, add, div, of_int}
use Rattle.rules.specs.Rules.{first_of}
use Rattle.integers.specs.Differences.{by_differences}
use Rattle.exact.specs.Numerator.{D, exact_of, numerator, same_exact}
use Rattle.coefficients.specs.Fraction.{times}
use Rattle.coefficients.specs.Rules.{c, g, l, s, total, terms, next, divided}
use Rattle.coefficients.specs.Scaled.{run, whole_run}
use Rattle.coefficients.specs.Formulas.{position_predictor, position_corrector, velocity_predictor, velocity_corrector, unsummed_cowell, adams_moulton, older_part}
use Rattle.ticks.specs.declared.Sample.{Sample}
use Rattle.ticks.specs.declared.WholeSample.{WholeSample}
use Rattle.ticks.specs.Round.{rounded_of}
use Rattle.ticks.specs.Samples.{any, whole_of}
use Rattle.axis.specs.Formulas.{motion_of, still, present_motion, predicted_motion, corrected_motion, kept_samples, advanced_axis, opened_axis, empty_axis, older_motion}
use Rattle.axis.specs.Estimates.{same_motion, in_range}
use Rattle.axis.specs.Agreement.{change_of, sizes, agrees_on}
use Rattle.axis.specs.Holding.{remainders_hold, samples_small, empty_zero, older_holds}
use Rattle.session.specs.declared.Session.{Session}
use Rattle.session.specs.declared.State.{State}
use Rattle.session.specs.declared.State.TheVariants.{Closed, Settled, Awaiting, Starting}
use Rattle.session.specs.Numbers.{points_hold, settings_hold}
use Rattle.session.specs.Moves.{nowhere, present_point, estimate_of, predicted_point, corrected_point, point_in_range, settled_again, awaiting_at, accepted_at, opened_session, closed_session}
use Rattle.session.specs.Apart.{points_agree, point_change}
use Rattle.session.specs.Holding.{counts_hold, same_point, settled_holds, estimate_begins, awaiting_holds, holds, settled, awaiting}
use Rattle.steps.specs.declared.Correction.TheVariants as C
use Rattle.steps.specs.Answers.{reported_motion, reported_point, reported_change, no_point, no_change, correction_answer, Prediction}
use Rattle.session.specs.Requests.{exact_point, Request}
use Rattle.steps.specs.Opening.{axis_samples, opened_with}
use Rattle.steps.specs.Refusals.{open_refusal, full, predict_refusal, agrees, largest_change, is_last, correct_refusal, withdraw_refusal}
use Rattle.steps.specs.Steps.{open_of, predict_of, correct_of, withdraw_of}
use Rattle.demands.specs.Coordinates.{position_in}
use Rattle.session.specs.Coordinates.{on_x}
use Rattle.demands.specs.Histories.{ours, Call, predict, correct, after, history, Entry, entries, samples_of, agains}
use Rattle.demands.specs.ClosedForm.{opening_samples, origin, first_sum, second_before, position_at, next_position}
use Rattle.demands.specs.Demands.{sample, second_difference, first_difference}
use Rattle.demands.specs.BadVersions.{predicting_zero, repeating, inventing_corrections, ignoring_velocities, keeping}
use Rattle.std.specs.Prelude.{Ok, Err}

-- ---- the sessions

abbrev float : ℤ → Float
float n = of_int binary64 n

-- H3's opening, with p, the two tolerances and a limit
abbrev pub h3 : ℕ → ℕ → ℕ → ℕ → Request
h3 p position velocity limit =
    record {
      points = p;
      tolerances = record { position = position; velocity = velocity };
      limit = limit;
      point = record { x = pos 1000; y = pos 0; z = pos 0; vx = pos 10; vy = pos 0; vz = pos 0 };
      floats = float (pos 12) ∷ float (pos 0) ∷ float (pos 0) ∷ [];
    }

-- the widest tolerance
abbrev pub widest : ℕ
widest = 1048576

-- H4, H5 and H6; and one that is refused
abbrev pub wide : Request
wide = h3 1 1 widest 2

abbrev pub narrow : Request
narrow = h3 1 0 widest 2

abbrev pub once : Request
once = h3 1 0 widest 1

abbrev pub none : Request
none = h3 0 1 widest 2

-- H4 with a velocity that may move by less than the 6 ticks that it moves by: by two corrections, and by one
abbrev pub turning : Request
turning = h3 1 widest 5 2

abbrev pub turning_once : Request
turning_once = h3 1 widest 5 1

abbrev pub start : Request → Session
start r = (ours.opens closed_session r).session

abbrev pub a24 : Sample
a24 = record { x = float (pos 24); y = float (pos 0); z = float (pos 0) }

abbrev pub whole24 : WholeSample
whole24 = record { x = pos 24; y = pos 0; z = pos 0 }

-- a prediction, and a correction by 24
abbrev pub round : List Call → List Call
round calls = correct a24 ∷ predict ∷ calls

-- awaiting the first correction, and settled after it
abbrev pub waiting : Request → Session
waiting r = after ours (start r) (predict ∷ [])

abbrev pub settled_once : Session
settled_once = after ours (start wide) (round [])

-- H7: two points
abbrev pub two : List Entry
two = entries (history ours (start wide) (round (round [])))

-- H5: one point, by two corrections
abbrev pub twice : List Call
twice = correct a24 ∷ correct a24 ∷ predict ∷ []

-- what `repeating` accepts, and where it awaits its second point
abbrev pub repeated : List Entry
repeated = entries (history repeating (start wide) (round (round [])))

abbrev pub repeating_once : Session
repeating_once = after repeating (start wide) (round [])

abbrev pub repeating_waits : Session
repeating_waits = after repeating (start wide) (predict ∷ round [])

-- the whole ticks of a prediction's position on x
abbrev pub predicted : Prediction → ℤ
predicted (Ok q) = q.x.position.exact.whole
predicted (Err n) = pos 0

abbrev pub state_number : State → ℕ
state_number Closed = 0
state_number Settled = 1
state_number Awaiting = 2
state_number Starting = 3

-- ---- what the definitions compute there

pub record Computed : Type 0 where
  -- openings
  pub opens : open_refusal wide ≡ 0
  pub opened : (ours.opens closed_session wide).answer ≡ Ok tt
  pub narrowly : (ours.opens closed_session narrow).answer ≡ Ok tt
  pub turningly : (ours.opens closed_session turning).answer ≡ Ok tt
  pub refused : open_refusal none ≡ 1
  pub samples : opening_samples wide on_x ≡ pos 12 ∷ []
  pub opening : (origin wide).position on_x ≡ pos (1000 * D)
  pub state_first : state_number (start wide).state ≡ 1
  pub kept_open : state_number (keeping.opens (start wide) none).session.state ≡ 1
  pub kept_closed : state_number (keeping.opens closed_session none).session.state ≡ 0
  pub closed_first : state_number closed_session.state ≡ 0
  pub accepted0 : (start wide).accepted ≡ 0
  pub accepted0_narrow : (start narrow).accepted ≡ 0
  -- H3, H4: a prediction, and its withdrawal
  pub predicts : predict_refusal (start wide) ≡ 0
  pub point1 : predicted (Ok (reported_point (predicted_point (start wide)))) ≡ pos 1016
  pub next1 : next_position (origin wide) on_x [] ≡ pos (1016 * D)
  pub waits : state_number (awaiting_at (start wide) 0 (predicted_point (start wide))).state ≡ 2
  pub withdraws : withdraw_refusal (waiting wide) ≡ 0
  pub unwithdrawn : withdraw_refusal (start wide) ≡ 7
  pub unpredicted : predict_refusal (waiting wide) ≡ 7
  pub uncorrected : correct_refusal (start wide) a24 ≡ 7
  -- H4: accepted; H5: again; H6: 8
  pub corrects : correct_refusal (waiting wide) a24 ≡ 0
  pub agreeing : agrees (waiting wide) (corrected_point (waiting wide) (whole_of a24)) ≡ true
  pub corrects_again : correct_refusal (waiting narrow) a24 ≡ 0
  pub differing : agrees (waiting narrow) (corrected_point (waiting narrow) (whole_of a24)) ≡ false
  pub eighth : correct_refusal (waiting once) a24 ≡ 8
  -- the velocity alone is over its tolerance: again, and 8
  pub turns_again : correct_refusal (waiting turning) a24 ≡ 0
  pub turned : agrees (waiting turning) (corrected_point (waiting turning) (whole_of a24)) ≡ false
  pub turned_last : correct_refusal (waiting turning_once) a24 ≡ 8
  pub one_again : agains 0 (history ours (start narrow) (round [])) ≡ 1
  pub still_awaiting : (after ours (start narrow) (round [])).state ≡ Awaiting
  -- H4, H5 and H4 with the lesser velocity tolerance accept the same sample
  pub sample_wide : samples_of (entries (history ours (start wide) (round []))) ≡ whole24 ∷ []
  pub sample_narrow : samples_of (entries (history ours (start narrow) twice)) ≡ whole24 ∷ []
  pub sample_turning : samples_of (entries (history ours (start turning) twice)) ≡ whole24 ∷ []
  pub settled_wide : settled settled_once ≡ true
  pub settled_narrow : settled (after ours (start narrow) twice) ≡ true
  -- H7: two points, 1057 - 2034 + 1000 = 23 and 28 - 10 = 18
  pub points : length two ≡ 2
  pub second : second_difference (origin wide) on_x two 2 ≡ pos (23 * D)
  pub first : first_difference (origin wide) on_x two 1 ≡ pos (18 * D)
  -- the bad versions there
  pub zero : predicted (predicting_zero.predicts (start wide)).answer ≡ pos 0
  pub zero_told : (predicting_zero.predicts (start wide)).answer ≡ Ok no_point
  pub zero_position : position_in on_x no_point ≡ pos 0
  pub next : predict_refusal repeating_once ≡ 0
  pub point2 : predicted (Ok (reported_point (predicted_point repeating_once))) ≡ pos 1057
  pub point1_again : predicted (repeating.predicts repeating_once).answer ≡ pos 1017
  pub repeated_points : length repeated ≡ 2
  pub repeated_second : second_difference (origin wide) on_x repeated 2 ≡ neg_ℤ (pos (17 * D))
  pub repeated_formula : by_differences (unsummed_cowell 1) (sample (origin wide) on_x repeated 2) ≡ pos (23 * D)
  pub repeated_told : (repeating.corrects repeating_waits a24).answer ≡ C.Accepted (reported_point (present_point repeating_waits))
  pub repeated_position : position_in on_x (reported_point (present_point repeating_waits)) ≡ pos (1017 * D)
  pub true_position : position_at (origin wide) on_x (whole_of a24 ∷ samples_of (entries (history repeating (start wide) (predict ∷ round [])))) ≡ pos (1057 * D)
  pub ignored : (correction_answer (ignoring_velocities.corrects (waiting turning) a24).answer).kind ≡ 1
  pub ignored_last : (correction_answer (ignoring_velocities.corrects (waiting turning_once) a24).answer).number ≡ 0
  pub invents : (after inventing_corrections (start wide) (predict ∷ [])).state ≡ Awaiting
  pub no_agains : agains (start wide).corrections (history inventing_corrections (start wide) (predict ∷ [])) ≡ 0

pub computed : Computed
unfolding add div of_int first_of by_differences exact_of numerator same_exact times c g l s total terms next divided run whole_run position_predictor position_corrector velocity_predictor velocity_corrector older_part unsummed_cowell adams_moulton rounded_of any motion_of still older_motion present_motion predicted_motion corrected_motion kept_samples advanced_axis opened_axis empty_axis same_motion in_range change_of sizes agrees_on remainders_hold samples_small empty_zero older_holds points_hold settings_hold nowhere present_point estimate_of predicted_point corrected_point point_in_range points_agree point_change settled_again awaiting_at accepted_at opened_session closed_session counts_hold same_point settled_holds estimate_begins awaiting_holds holds settled awaiting reported_motion reported_point reported_change no_point no_change exact_point axis_samples opened_with open_refusal full predict_refusal agrees largest_change is_last correct_refusal withdraw_refusal open_of predict_of correct_of withdraw_of first_sum second_before position_at next_position
computed =
    record {
      opens = refl;
      opened = refl;
      narrowly = refl;
      turningly = refl;
      refused = refl;
      samples = refl;
      opening = refl;
      state_first = refl;
      kept_open = refl;
      kept_closed = refl;
      closed_first = refl;
      accepted0 = refl;
      accepted0_narrow = refl;
      predicts = refl;
      point1 = refl;
      next1 = refl;
      waits = refl;
      withdraws = refl;
      unwithdrawn = refl;
      unpredicted = refl;
      uncorrected = refl;
      corrects = refl;
      agreeing = refl;
      corrects_again = refl;
      differing = refl;
      eighth = refl;
      turns_again = refl;
      turned = refl;
      turned_last = refl;
      one_again = refl;
      still_awaiting = refl;
      sample_wide = refl;
      sample_narrow = refl;
      sample_turning = refl;
      settled_wide = refl;
      settled_narrow = refl;
      points = refl;
      second = refl;
      first = refl;
      zero = refl;
      zero_told = refl;
      zero_position = refl;
      next = refl;
      point2 = refl;
      point1_again = refl;
      repeated_points = refl;
      repeated_second = refl;
      repeated_formula = refl;
      repeated_told = refl;
      repeated_position = refl;
      true_position = refl;
      ignored = refl;
      ignored_last = refl;
      invents = refl;
      no_agains = refl;
    }
