-- Each theorem applies to something: in the session of the figures H3 to H7 its hypotheses are met, by computing.
use mathlib.Core.Path.{◌≡◌, refl, sym, ap, ◌∙◌}
use mathlib.Core.Logic.{inr}
use mathlib.Core.Bool.{true}
use mathlib.Core.List.{[]}
use Prim.Native.Nat.{ℕ, ◌*◌}
use native.Mathlib.Omega.{arith}
use lib.IntN.{pos}
use lib.Ieee.{Float}
use lib.ListN.{get_or}
use Rattle.integers.specs.Differences.{at, by_differences}
use Rattle.exact.specs.Numerator.{D}
use Rattle.coefficients.specs.Fraction.{◌≐◌, ◌over◌}
use Rattle.coefficients.specs.Rules.{l}
use Rattle.coefficients.specs.Formulas.{unsummed_cowell, adams_moulton, series}
use Rattle.ticks.specs.Round.{rounded_of, ticks_in}
use Rattle.ticks.specs.Samples.{whole_of}
use Rattle.session.specs.declared.Session.{Session}
use Rattle.session.specs.Moves.{corrected_point, settled_again, closed_session}
use Rattle.session.proofs.Rules.{resting}
use Rattle.session.specs.Holding.{holds}
use Rattle.rules.specs.Rules.{NotZero, Unrefused}
use Rattle.rules.proofs.Readings.{surely}
use Rattle.steps.specs.Steps.{predict_of, correct_of, withdraw_of}
use Rattle.session.specs.Coordinates.{on_x}
use Rattle.demands.specs.Histories.{ours, predict, step, event, after, history, entries}
use Rattle.demands.specs.Records.{SettledRecord, AwaitingRecord}
use Rattle.demands.specs.Refusals.{Within, correct_table, withdraw_table}
use Rattle.demands.specs.ClosedForm.{origin}
use Rattle.demands.specs.Demands.{sample, second_difference, SamePoint, Agree}
use Rattle.demands.specs.BadVersions.{refusing}
use Rattle.demands.specs.Theorems.{Alike, refused7}
use Rattle.demands.proofs.Theorems.{our-calls, any-calls}
use Rattle.demands.proofs.Openings.{closed-unopen, closed-unstarted}
use Rattle.demands.proofs.Opens.{number_is, open-begins}
use Rattle.demands.proofs.Ours.{predict-number, correct-number, withdraw-number, correct-none, withdraw-none}
use Rattle.demands.proofs.TurnedDown.{begins}
use Rattle.demands.proofs.Examples.{h3, widest, wide, narrow, turning, once, none, start, a24, round, waiting, settled_once, two, twice, computed}
use Rattle.demands.proofs.Conditions.{agreement}

-- a number that was computed is the answer's
given : {m n : ℕ} → m ≡ n → NotZero n → NotZero m
given e f z = f (sym e ∙ z)

clash : ◌≡◌ {A = ℕ} 0 1 → ⊥
clash h = omega arith

seven : NotZero 7
seven e = omega arith

-- ---- demand 1: an open refused 1, H10, H6, and a correction and a withdrawal that nothing awaits

closed : start none ≡ closed_session
closed = our-calls.demand1.closed (start wide) none (given (number_is none ∙ computed.refused) (λ e. omega arith))

unpredicted : (predict_of (waiting wide)).session ≡ waiting wide
unpredicted = our-calls.demand1.unpredicted (waiting wide) (given (predict-number (waiting wide) ∙ computed.unpredicted) seven)

settled-again : (correct_of (waiting once) a24).session ≡ settled_again (waiting once)
settled-again = our-calls.demand1.settled (waiting once) a24 (correct-number (waiting once) a24 ∙ computed.eighth)

uncorrected : (correct_of (start wide) a24).session ≡ start wide
uncorrected =
    let n = correct-number (start wide) a24 ∙ computed.uncorrected in
    our-calls.demand1.uncorrected (start wide) a24 (given n seven) (λ e. omega (arith, sym n ∙ e))

unwithdrawn : (withdraw_of (start wide)).session ≡ start wide
unwithdrawn = our-calls.demand1.unwithdrawn (start wide) (given (withdraw-number (start wide) ∙ computed.unwithdrawn) seven)

-- ---- demand 2: H3's opening and prediction (`unrefused-open`, `unrefused-predict`), H4 accepted, H5 again, and a withdrawal

accepted : Unrefused (correct_table (waiting wide) a24) × Within (waiting wide) (corrected_point (waiting wide) (whole_of a24))
accepted =
    ((correct-none (waiting wide) a24).0 computed.corrects, (agreement (waiting wide) (corrected_point (waiting wide) (whole_of a24))).yes.0 computed.agreeing)

again : Unrefused (correct_table (waiting narrow) a24) × (¬ Within (waiting narrow) (corrected_point (waiting narrow) (whole_of a24)))
again =
    ((correct-none (waiting narrow) a24).0 computed.corrects_again, (agreement (waiting narrow) (corrected_point (waiting narrow) (whole_of a24))).no.0 computed.differing)

withdrawn : Unrefused (withdraw_table (waiting wide))
withdrawn = (withdraw-none (waiting wide)).0 computed.withdraws

-- ---- records: settled where H4 and H5 are accepted, and awaiting after H3's prediction

rests : SettledRecord settled_once
rests = (our-calls.settled_records settled_once).yes.0 computed.settled_wide

rests-narrow : SettledRecord (after ours (start narrow) twice)
rests-narrow = (our-calls.settled_records (after ours (start narrow) twice)).yes.0 computed.settled_narrow

awaits : AwaitingRecord (waiting wide)
awaits = surely (our-calls.awaiting_records (waiting wide)) withdrawn.0

open-awaits : holds (waiting wide) ≡ true
open-awaits = (our-calls.open_records (waiting wide)).yes.1 (inr awaits)

-- ---- demand 3: H7, where both sides are 23, and 18 for the velocity at point 1; H4 and H5 are opened alike and accept the same sample

cowell : by_differences (unsummed_cowell 1) (sample (origin wide) on_x two 2) ≡ pos (23 * D)
cowell = sym ((our-calls.demand3.unsummed (origin wide) (start wide) begins (round (round []))).cowell on_x 2 (omega arith) (omega (arith, computed.points))) ∙ computed.second

adams : by_differences (adams_moulton 1) (sample (origin wide) on_x two 1) ≡ pos (18 * D)
adams = sym ((our-calls.demand3.unsummed (origin wide) (start wide) begins (round (round []))).adams on_x 1 (omega arith) (omega (arith, computed.points))) ∙ computed.first

in-ticks : second_difference (origin wide) on_x two 2 over D ≐ series l 0 3 (sample (origin wide) on_x two 2)
in-ticks = (our-calls.in_ticks (origin wide) (start wide) begins (round (round []))).cowell on_x 2 (omega arith) (omega (arith, computed.points))

-- whatever the tolerances and the limit are
alike : (position velocity limit : ℕ) → Alike wide (h3 1 position velocity limit)
alike position velocity limit = record { points = refl; point = refl; samples = λ k. refl }

same : SamePoint ours settled_once (after ours (start narrow) twice)
same = our-calls.of_openings.same closed_session closed_session wide narrow computed.opened computed.narrowly (alike 0 widest 2) (round []) twice (computed.sample_wide ∙ sym computed.sample_narrow)

-- a velocity tolerance that asked for a second correction leaves it at the same point
same-turned : SamePoint ours settled_once (after ours (start turning) twice)
same-turned = our-calls.of_openings.same closed_session closed_session wide turning computed.opened computed.turningly (alike widest 5 2) (round []) twice (computed.sample_wide ∙ sym computed.sample_turning)

same_next : (predict_of settled_once).answer ≡ (predict_of (after ours (start narrow) twice)).answer
same_next =
    our-calls.same_next (origin wide) (start wide) (start narrow) begins (open-begins narrow computed.narrowly) (computed.accepted0 ∙ sym computed.accepted0_narrow) (round []) twice
    (computed.sample_wide ∙ sym computed.sample_narrow) rests rests-narrow

-- ---- the counts: two points in H7, one correction in H5, none where H4 is settled

two-points : (after ours (start wide) (round (round []))).accepted ≡ 2
two-points = our-calls.of_openings.accepted closed_session wide computed.opened (round (round [])) ∙ computed.points

one-correction : (after ours (start narrow) (round [])).corrections ≡ 1
one-correction = our-calls.of_openings.awaiting closed_session narrow computed.narrowly (round []) computed.still_awaiting ∙ computed.one_again

no-correction : settled_once.corrections ≡ 0
no-correction = our-calls.counts.settled (start wide) begins.held (round []) (resting settled_once computed.settled_wide).state

-- ---- a closed record, an open that was refused, the opening samples, and two implementations

refused-7 : (step ours closed_session predict ≡ closed_session) × (event ours closed_session predict ≡ refused7 predict)
refused-7 = our-calls.closed closed_session closed-unopen closed-unstarted predict

-- H3's session with a velocity tolerance of one more than the widest
too_wide : Session
too_wide =
    let s = start wide in
    record {
      state = s.state;
      points = s.points;
      tolerances = record { position = 1; velocity = 1048577 };
      limit = s.limit;
      accepted = s.accepted;
      corrections = s.corrections;
      x = s.x;
      y = s.y;
      z = s.z;
    }

counts-as-closed : (step ours too_wide predict ≡ too_wide) × (event ours too_wide predict ≡ refused7 predict)
unfolding too_wide
counts-as-closed = our-calls.bad_settings too_wide (λ h. omega (arith, h.0.1)) predict

none-accepted : entries (history ours (start none) (round [])) ≡ []
none-accepted = (our-calls.unopened (start wide) none (given (number_is none ∙ computed.refused) (λ e. omega arith)) (round [])).1

newest-sample : ticks_in (rounded_of (get_or wide.floats 0 Float.nan)) ≡ pos 12
newest-sample = sym (any-calls.opening_sample wide on_x 0 Float.nan (omega arith) refl) ∙ ap (λ xs. at xs 0) computed.samples

only-ours : Agree ours ours
only-ours = any-calls.unique ours ours our-calls.demand1 our-calls.demand2 our-calls.demand1 our-calls.demand2

-- not every two agree
differ : ¬ Agree ours refusing
differ a = let e = sym computed.opened ∙ ap (λ r. r.answer) (a.opens closed_session wide) in clash (cc)
