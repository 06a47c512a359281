-- The bad version does not add: H3 and H4 twice, and once with all numbers doubled, whose point is answered one remainder too high.
use mathlib.Core.Path.{◌≡◌, refl, sym, ap, ◌∙◌}
use mathlib.Core.List.{List, [], ◌∷◌}
use Prim.Native.Nat.{ℕ, zero, suc, ◌+◌, ◌-◌, ◌*◌, ◌≤◌, ◌<◌}
use native.Mathlib.Omega.{arith}
use lib.IntN.{pos, nat_abs, ◌+ℤ◌}
use lib.Ieee.{Float, binary64, of_int, add, div}
use lib.ListN.{length, length-map}
use Rattle.rules.specs.Rules.{first_of}
use Rattle.integers.specs.Differences.{by_differences}
use Rattle.exact.specs.Numerator.{D, exact_of, numerator, same_exact}
use Rattle.coefficients.specs.Fraction.{times}
use Rattle.coefficients.specs.Rules.{c, g, l, s, total, terms, next, divided}
use Rattle.coefficients.specs.Scaled.{run, whole_run}
use Rattle.coefficients.specs.Formulas.{position_predictor, position_corrector, velocity_predictor, velocity_corrector, older_part}
use Rattle.ticks.specs.declared.WholeSample.{WholeSample}
use Rattle.ticks.specs.Round.{rounded_of, ticks_in}
use Rattle.ticks.specs.Samples.{any}
use Rattle.axis.specs.Kinds.{Kind, of_position, of_velocity}
use Rattle.axis.specs.Formulas.{motion_of, still, present_motion, predicted_motion, corrected_motion, kept_samples, advanced_axis, opened_axis, empty_axis, older_motion}
use Rattle.axis.specs.Estimates.{same_motion, in_range}
use Rattle.axis.specs.Agreement.{change_of, sizes, agrees_on}
use Rattle.axis.specs.Holding.{remainders_hold, samples_small, empty_zero, older_holds}
use Rattle.session.specs.Coordinates.{Coordinate, on_x, on_y, on_z, ticks_on}
use Rattle.session.specs.Numbers.{points_hold, settings_hold}
use Rattle.session.specs.Moves.{nowhere, present_point, estimate_of, predicted_point, corrected_point, point_in_range, settled_again, awaiting_at, accepted_at, opened_session, closed_session}
use Rattle.session.specs.Apart.{points_agree, point_change}
use Rattle.session.specs.Holding.{counts_hold, same_point, settled_holds, estimate_begins, awaiting_holds, holds, settled, awaiting}
use Rattle.session.specs.Requests.{exact_point, Request}
use Rattle.steps.specs.Answers.{reported_motion, reported_point, reported_change, no_point, no_change}
use Rattle.steps.specs.Opening.{axis_samples, opened_with}
use Rattle.steps.specs.Refusals.{open_refusal, full, predict_refusal, agrees, largest_change, is_last, correct_refusal, withdraw_refusal}
use Rattle.steps.specs.Steps.{open_of, predict_of, correct_of, withdraw_of}
use Rattle.demands.specs.Histories.{Call, predict, correct, after, history, entries, samples_of}
use Rattle.demands.specs.ClosedForm.{origin, samples}
use Rattle.demands.proofs.Theorems.{our-calls}
use Rattle.adding.specs.Tracks.{Track, Called, reached, sample_at, value_at}
use Rattle.adding.specs.Sums.{given, tick_at, RequestsAdd, SumUpTo}
use Rattle.adding.specs.BadVersion.{slipping}
use Rattle.adding.specs.Theorems.{Adds}
use Rattle.adding.proofs.Requests.{requests-add}
use Rattle.std.specs.Prelude.{Ok}

-- ---- n times H3 and H4

abbrev float : ℕ → Float
float m = of_int binary64 (pos m)

abbrev asks : ℕ → Request
asks n =
    record {
      points = 1;
      tolerances = record { position = 2; velocity = 1048576 };
      limit = 2;
      point = record { x = pos (n * 1000); y = pos 0; z = pos 0; vx = pos (n * 10); vy = pos 0; vz = pos 0 };
      floats = float (n * 12) ∷ float 0 ∷ float 0 ∷ [];
    }

abbrev calls : ℕ → List Call
calls n = correct (record { x = float (n * 24); y = float 0; z = float 0 }) ∷ predict ∷ []

abbrev ticked : ℕ → WholeSample
ticked m = record { x = pos m; y = pos 0; z = pos 0 }

abbrev track : ℕ → Track
track n =
    record {
      origin = origin (asks n);
      first = (open_of (asks n)).session;
      events = history slipping (open_of (asks n)).session (calls n);
      last = after slipping (open_of (asks n)).session (calls n);
    }

-- ---- what the definitions compute there

record Computed : Type 0 where
  opened1 : (open_of (asks 1)).answer ≡ Ok tt
  opened2 : (open_of (asks 2)).answer ≡ Ok tt
  tick1 : tick_at 0 (asks 1) ≡ pos 12
  tick2 : tick_at 0 (asks 2) ≡ pos 24
  none : ticks_in (rounded_of (float 0)) ≡ pos 0
  samples1 : samples_of (entries (track 1).events) ≡ ticked 24 ∷ []
  samples2 : samples_of (entries (track 2).events) ≡ ticked 48 ∷ []
  true1 : value_at of_position on_x (track 1) 1 ≡ pos (1017 * D)
  slips2 : value_at of_position on_x (track 2) 1 ≡ pos (2034 * D + 1)

computed : Computed
unfolding add div of_int first_of by_differences exact_of numerator same_exact times c g l s total terms next divided run whole_run position_predictor position_corrector velocity_predictor velocity_corrector older_part rounded_of any motion_of still older_motion present_motion predicted_motion corrected_motion kept_samples advanced_axis opened_axis empty_axis same_motion in_range change_of sizes agrees_on remainders_hold samples_small empty_zero older_holds points_hold settings_hold nowhere present_point estimate_of predicted_point corrected_point point_in_range points_agree point_change settled_again awaiting_at accepted_at opened_session closed_session counts_hold same_point settled_holds estimate_begins awaiting_holds holds settled awaiting reported_motion reported_point reported_change no_point no_change exact_point axis_samples opened_with open_refusal full predict_refusal agrees largest_change is_last correct_refusal withdraw_refusal open_of predict_of correct_of withdraw_of
computed =
    record { opened1 = refl; opened2 = refl; tick1 = refl; tick2 = refl; none = refl; samples1 = refl; samples2 = refl; true1 = refl; slips2 = refl }

-- ---- the third is the sum of the two up to point 1

asked : RequestsAdd (asks 1) (asks 1) (asks 2)
asked = record { first = refl; second = refl; point = λ kind k. doubled kind k; floats = places }
  where
    doubled : (kind : Kind) (k : Coordinate) → given kind k (asks 2) ≡ given kind k (asks 1) +ℤ given kind k (asks 1)
    doubled of_position on_x = refl
    doubled of_position on_y = refl
    doubled of_position on_z = refl
    doubled of_velocity on_x = refl
    doubled of_velocity on_y = refl
    doubled of_velocity on_z = refl

    nothing : ticks_in (rounded_of (float 0)) ≡ ticks_in (rounded_of (float 0)) +ℤ ticks_in (rounded_of (float 0))
    nothing = computed.none ∙ (λ i. sym computed.none i +ℤ sym computed.none i)

    places : (i : ℕ) → i < 3 → tick_at i (asks 2) ≡ tick_at i (asks 1) +ℤ tick_at i (asks 1)
    places zero h = computed.tick2 ∙ (λ i. sym computed.tick1 i +ℤ sym computed.tick1 i)
    places (suc zero) h = nothing
    places (suc (suc zero)) h = nothing
    places (suc (suc (suc i))) h = absurd (omega arith)

called1 : Called slipping (track 1)
called1 = record { begins = our-calls.demand3.begins closed_session (asks 1) computed.opened1; calls = calls 1; events = refl; last = refl }

called2 : Called slipping (track 2)
called2 = record { begins = our-calls.demand3.begins closed_session (asks 2) computed.opened2; calls = calls 2; events = refl; last = refl }

-- one point with its one sample
module _ (n m : ℕ) (e : samples_of (entries (track n).events) ≡ ticked m ∷ []) where
  one-point : reached (track n) ≡ 1
  one-point = sym (length-map (entries (track n).events) (λ x. x.sample)) ∙ ap length e

  one-sample : (k : Coordinate) → sample_at k (track n) 1 ≡ ticks_on k (ticked m)
  one-sample k = λ i. samples (track n).origin k (e i) (one-point i - 1 + 0)

doubled-sample : (k : Coordinate) → ticks_on k (ticked 48) ≡ ticks_on k (ticked 24) +ℤ ticks_on k (ticked 24)
doubled-sample on_x = refl
doubled-sample on_y = refl
doubled-sample on_z = refl

summed : SumUpTo 1 (track 1) (track 1) (track 2)
summed =
    record {
      first = omega (arith, one-point 1 24 computed.samples1);
      second = omega (arith, one-point 1 24 computed.samples1);
      third = omega (arith, one-point 2 48 computed.samples2);
      openings = requests-add (asks 1) (asks 1) (asks 2) asked;
      samples = accepted;
    }
  where
    first-sample : (k : Coordinate) → sample_at k (track 1) 1 ≡ ticks_on k (ticked 24)
    first-sample = one-sample 1 24 computed.samples1

    accepted : (k : Coordinate) (m : ℕ) → 1 ≤ m → m ≤ 1 → sample_at k (track 2) m ≡ sample_at k (track 1) m +ℤ sample_at k (track 1) m
    accepted k zero a b = absurd (omega arith)
    accepted k (suc zero) a b =
        one-sample 2 48 computed.samples2 k ∙ doubled-sample k ∙ (λ i. sym (first-sample k) i +ℤ sym (first-sample k) i)
    accepted k (suc (suc m)) a b = absurd (omega arith)

-- 2034 and one remainder, where the sum is 2034
pub slipping-apart : ¬ Adds slipping (Called slipping)
slipping-apart h =
    let e : pos (2034 * D + 1) ≡ pos (1017 * D) +ℤ pos (1017 * D) =
    sym computed.slips2 ∙ h.points (track 1) (track 1) (track 2) called1 called1 called2 1 summed of_position on_x ∙ (λ i. computed.true1 i +ℤ computed.true1 i) in
    omega (arith, ap nat_abs e)
