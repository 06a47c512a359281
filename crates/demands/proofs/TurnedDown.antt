-- Each bad version fails the demand that is named for it, in the session of the figures.
use mathlib.Core.Path.{◌≡◌, refl, sym, ap, ◌∙◌, subst}
use mathlib.Core.List.{List, [], ◌∷◌}
use Prim.Native.Nat.{ℕ, ◌*◌}
use native.Mathlib.Omega.{arith}
use lib.IntN.{pos, neg_ℤ, nat_abs}
use Rattle.exact.specs.Numerator.{D}
use Rattle.ticks.specs.declared.WholeSample.{WholeSample}
use Rattle.ticks.specs.Samples.{whole_of}
use Rattle.session.specs.declared.Session.{Session}
use Rattle.session.specs.Moves.{present_point, closed_session}
use Rattle.steps.specs.Answers.{no_point, reported_point, prediction_answer, correction_answer, Prediction}
use Rattle.steps.specs.Steps.{predict_of}
use Rattle.session.specs.Coordinates.{on_x}
use Rattle.demands.specs.Histories.{Call, predict, correct, withdraw, refine, predicting, correcting, after, history, entries, samples_of}
use Rattle.rules.specs.Rules.{Exactly, Unrefused}
use Rattle.demands.specs.Refusals.{open_table, predict_table, correct_table}
use Rattle.demands.specs.ClosedForm.{Origin, Begins, origin, Predicts, Corrects, Tells}
use Rattle.demands.specs.Demands.{Unsummed, Demand1, Demand2, Formulas, Demand3, Counts, Leaves, correct_number}
use Rattle.demands.specs.BadVersions.{zeroed, refusing, predicting_zero, unmoving, repeating, inventing_points, inventing_corrections, ignoring_velocities, keeping}
use Rattle.demands.specs.Theorems.{TurnedDown, Replaces}
use Rattle.demands.proofs.Opens.{open-begins, number_is}
use Rattle.demands.proofs.Alike.{same_point}
use Rattle.demands.proofs.Ours.{demand1, open_none, predict-none, correct-none}
use Rattle.demands.proofs.RoundsTurnedDown as R
use Rattle.demands.proofs.Examples.{wide, turning, turning_once, waiting, start, a24, round, repeating_once, repeating_waits, predicted, state_number, computed, none}
use Rattle.demands.proofs.Conditions.{agreement}
use Rattle.demands.proofs.Tables.{correct-first}
use Rattle.rules.proofs.Readings.{one-exactly}
use Rattle.steps.specs.Refusals.{correct_refusal}
use Rattle.std.specs.Prelude.{Ok, Err}

clash : ◌≡◌ {A = ℕ} 0 1 → ⊥
clash h = omega arith

-- ---- the session of the figures is opened, and its prediction is not refused

pub unrefused-open : Unrefused (open_table wide)
unrefused-open = (open_none wide).0 computed.opens

pub unrefused-predict : Unrefused (predict_table (start wide))
unrefused-predict = (predict-none (start wide)).0 computed.predicts

pub begins : Begins (origin wide) (start wide)
begins = open-begins wide computed.opened

-- ---- refuses everything: it gives 1 for a p of 1, and does not open

refusing1 : ¬ Demand1 refusing
refusing1 d = (d.opens closed_session wide).0.0 refl (omega arith, omega arith)

refusing2 : ¬ Demand2 refusing
refusing2 d = let e = ap (λ r. r.answer) (d.opens closed_session wide unrefused-open) in clash (cc)

-- ---- always predicts zero: 0 where the formula gives 1016

predicting_zero2 : ¬ Demand2 predicting_zero
predicting_zero2 d =
    let e : pos 0 ≡ pos 1016 = sym computed.zero ∙ ap (λ r. predicted r.answer) (d.predicts (start wide) unrefused-predict) ∙ computed.point1 in
    omega (arith, ap nat_abs e)

predicting_zero_formulas : ¬ Formulas predicting_zero
predicting_zero_formulas d =
    let t : Predicts (origin wide) [] no_point = subst (λ r. Tells (origin wide) [] (predicting r)) computed.zero_told (d.told (origin wide) (start wide) begins (predict ∷ [])).0 in
    omega (arith, ap nat_abs (sym computed.zero_position ∙ t.position on_x ∙ computed.next1))

-- ---- never moves the session: settled where it must be awaiting

unmoving2 : ¬ Demand2 unmoving
unmoving2 d = omega (arith, sym computed.state_first ∙ ap (λ r. state_number r.session.state) (d.predicts (start wide) unrefused-predict) ∙ computed.waits)

-- ---- steps truly once and then repeats: 1017 again where the formulas give 1057, and 1017 - 2034 + 1000 = -17 where Cowell's gives 23

repeating2 : ¬ Demand2 repeating
repeating2 d =
    let e : pos 1017 ≡ pos 1057 = sym computed.point1_again ∙ ap (λ r. predicted r.answer) (d.predicts repeating_once ((predict-none repeating_once).0 computed.next)) ∙ computed.point2 in
    omega (arith, ap nat_abs e)

repeating3 : ¬ Demand3 repeating
repeating3 d =
    let c = (d.unsummed (origin wide) (start wide) begins (round (round []))).cowell on_x 2 (omega arith) (omega (arith, computed.repeated_points)) in
    let e : neg_ℤ (pos (17 * D)) ≡ pos (23 * D) = sym computed.repeated_second ∙ c ∙ computed.repeated_formula in
    omega (arith, ap nat_abs e)

repeating_formulas : ¬ Formulas repeating
repeating_formulas d =
    let ws : List WholeSample = samples_of (entries (history repeating (start wide) (predict ∷ round []))) in
    let t : Corrects (origin wide) (whole_of a24 ∷ ws) (reported_point (present_point repeating_waits)) =
    subst (λ r. Tells (origin wide) ws (correcting a24 r)) computed.repeated_told (d.told (origin wide) (start wide) begins (round (round []))).0 in
    omega (arith, ap nat_abs (sym computed.repeated_position ∙ t.position on_x ∙ computed.true_position))

-- ---- reports a point that it made up: one answer *accepted*, and the record counts none

inventing_points_counts : ¬ Counts inventing_points
inventing_points_counts d = omega (arith, d.accepted (start wide) begins.held (correct a24 ∷ []))

-- and its point is 0, where the record stands at 1000
inventing_points_last : ¬ Leaves inventing_points
inventing_points_last d =
    omega (arith, ap nat_abs (sym computed.opening ∙ sym (begins.position on_x) ∙ (d.last (origin wide) (start wide) begins (correct a24 ∷ []) on_x).0 ∙ computed.zero_position))

-- ---- reports a correction that it made up: the record counts one, and no answer was *again*

inventing_corrections_counts : ¬ Counts inventing_corrections
inventing_corrections_counts d = omega (arith, d.awaiting (start wide) begins.held (predict ∷ []) computed.invents ∙ computed.no_agains)

-- ---- what they meet

accepts-none : (s : Session) (calls : List Call) → entries (history refusing s calls) ≡ []
accepts-none s [] = refl
accepts-none s (predict ∷ calls) = accepts-none s calls
accepts-none s (correct a ∷ calls) = accepts-none s calls
accepts-none s (withdraw ∷ calls) = accepts-none s calls
accepts-none s (refine floats ∷ calls) = accepts-none s calls

stays : (s : Session) (calls : List Call) → after refusing s calls ≡ s
stays s [] = refl
stays s (predict ∷ calls) = stays s calls
stays s (correct a ∷ calls) = stays s calls
stays s (withdraw ∷ calls) = stays s calls
stays s (refine floats ∷ calls) = stays s calls

unsummed-none : (o : Origin) → Unsummed o []
unsummed-none o = record { cowell = λ k n l h. absurd (omega arith); adams = λ k n l h. absurd (omega arith) }

refusing3 : Demand3 refusing
refusing3 =
    record {
      begins = λ s r e. absurd (clash (cc));
      started = λ s floats e. absurd (clash (cc));
      unsummed = λ o s b calls. subst (Unsummed o) (sym (accepts-none s calls)) (unsummed-none o);
      same = λ o s t b d calls others e.
          record {
            present = ap present_point (stays s calls) ∙ (same_point o s t b d [] [] refl).present ∙ sym (ap present_point (stays t others));
            next = λ q r f g. absurd (clash (cc));
          };
    }

zeroed-number : (r : Prediction) → (prediction_answer (zeroed r)).number ≡ (prediction_answer r).number
zeroed-number (Ok q) = refl
zeroed-number (Err n) = refl

predicting_zero1 : Demand1 predicting_zero
predicting_zero1 =
    record {
      opens = demand1.opens;
      predicts = λ s. subst (Exactly (predict_table s)) (sym (zeroed-number (predict_of s).answer)) (demand1.predicts s);
      corrects = demand1.corrects;
      withdraws = demand1.withdraws;
      closed = demand1.closed;
      unpredicted = λ s f. demand1.unpredicted s (λ e. f (zeroed-number (predict_of s).answer ∙ e));
      settled = demand1.settled;
      uncorrected = demand1.uncorrected;
      unwithdrawn = demand1.unwithdrawn;
      starts = demand1.starts;
      refines = demand1.refines;
      unstarted = demand1.unstarted;
      ended = demand1.ended;
      unrefined = demand1.unrefined;
      blank_start = demand1.blank_start;
      blank_round = demand1.blank_round;
    }

-- ---- looks at positions alone: it accepts where the velocity moved by 6 ticks and 5 are allowed, which asks for another correction, or for 8

ignoring_velocities1 : ¬ Demand1 ignoring_velocities
ignoring_velocities1 d =
    let s = waiting turning_once in
    let number = one-exactly (correct_table s a24) (correct_number ignoring_velocities s a24) (correct_refusal s a24) (correct-first s a24) (d.corrects s a24) in
    omega (arith, sym computed.ignored_last ∙ number ∙ computed.turned_last)

ignoring_velocities2 : ¬ Demand2 ignoring_velocities
ignoring_velocities2 d =
    let again = d.repeats (waiting turning) a24 ((correct-none (waiting turning) a24).0 computed.turns_again) ((agreement (waiting turning) _).no.0 computed.turned) in
    omega (arith, sym computed.ignored ∙ ap (λ r. (correction_answer r.answer).kind) again)

-- ---- keeps the record that was there where it refuses an open: settled where it must be closed, and closed on another record

keeping1 : ¬ Demand1 keeping
keeping1 d =
    let e = d.closed (start wide) none (λ z. omega (arith, sym (number_is none ∙ computed.refused) ∙ z)) in
    omega (arith, sym computed.kept_open ∙ ap (λ s. state_number s.state) e ∙ computed.closed_first)

keeping_replaces : ¬ Replaces keeping
keeping_replaces h =
    omega (arith, sym computed.kept_open ∙ ap (λ r. state_number r.session.state) (h.opens (start wide) closed_session none) ∙ computed.kept_closed)

pub turned_down : TurnedDown
turned_down =
    record {
      refusing1 = refusing1;
      refusing2 = refusing2;
      predicting_zero2 = predicting_zero2;
      predicting_zero_formulas = predicting_zero_formulas;
      unmoving2 = unmoving2;
      repeating2 = repeating2;
      repeating3 = repeating3;
      repeating_formulas = repeating_formulas;
      inventing_points_counts = inventing_points_counts;
      inventing_points_last = inventing_points_last;
      inventing_corrections_counts = inventing_corrections_counts;
      opening_at_once2 = R.opening_at_once2;
      opening_at_once_leaves = R.opening_at_once_leaves;
      opening_anyhow2 = R.opening_anyhow2;
      never_counting_counts = R.never_counting_counts;
      keeping1 = keeping1;
      keeping_replaces = keeping_replaces;
      keeping_starts1 = R.keeping_starts1;
      ignoring_velocities1 = ignoring_velocities1;
      ignoring_velocities2 = ignoring_velocities2;
      ignoring_velocities_of_rounds2 = R.ignoring_velocities_of_rounds2;
      refusing3 = refusing3;
      predicting_zero1 = predicting_zero1;
    }
