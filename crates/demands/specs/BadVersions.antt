-- The bad versions that inspection is to turn down, each as an implementation of the six calls. Definitions only.
use Rattle.std.specs.Prelude.{ℕ, zero, suc, ◌+◌, Bool, true, false, cond, List, eqb, Float, Ok, Err}
use Rattle.ticks.specs.declared.Sample.{Sample}
use Rattle.ticks.specs.Samples.{whole_of}
use Rattle.axis.specs.declared.Tolerances.{Tolerances}
use Rattle.axis.specs.Kinds.{within}
use Rattle.session.specs.declared.Point.{Point}
use Rattle.session.specs.declared.Session.{Session}
use Rattle.session.specs.declared.State.TheVariants.{Settled}
use Rattle.session.specs.Moves.{present_point, corrected_point, estimate_of, became, settled_again, accepted_at, closed_session}
use Rattle.steps.specs.declared.Correction.{Correction}
use Rattle.steps.specs.declared.Correction.TheVariants as C
use Rattle.steps.specs.Answers.{no_point, reported_point, Opening, Prediction, AfterCorrect}
use Rattle.steps.specs.Steps.{predict_of, correct_of, withdraw_of, open_of}
use Rattle.session.specs.Requests.{Request}
use Rattle.epoch_session.specs.Rounds.{earlier_point, every_below}
use Rattle.epoch_session.specs.Records.{held_round, opened_round}
use Rattle.epoch_steps.specs.declared.Outcome.{Outcome}
use Rattle.epoch_steps.specs.declared.Outcome.TheVariants as R
use Rattle.epoch_steps.specs.Refusals.{first_round, later_round}
use Rattle.epoch_steps.specs.Steps.{told, refused, refine_of, start_of}
use Rattle.demands.specs.Histories.{Implementation, ours}
use Rattle.integers.specs.Tests.{◌and◌}
use Rattle.epoch_steps.specs.Answers.{AfterRound}

-- refuses everything
abbrev pub refusing : Implementation
refusing =
    record {
      opens = λ s r. record { session = closed_session; answer = Err 1 };
      predicts = λ s. record { session = s; answer = Err 7 };
      corrects = λ s a. record { session = s; answer = C.Refused 7 };
      withdraws = λ s. record { session = s; answer = Err 7 };
      starts = λ s r. record { session = closed_session; answer = refused 1 };
      refines = λ s floats. record { session = s; answer = refused 7 };
    }

-- always predicts zero
abbrev pub zeroed : Prediction → Prediction
zeroed (Ok q) = Ok no_point
zeroed (Err n) = Err n

abbrev pub predicting_zero : Implementation
predicting_zero =
    record {
      opens = ours.opens;
      predicts = λ s. record { session = (predict_of s).session; answer = zeroed (predict_of s).answer };
      corrects = correct_of;
      withdraws = withdraw_of;
      starts = ours.starts;
      refines = refine_of;
    }

-- never moves the session
abbrev pub unmoving : Implementation
unmoving =
    record {
      opens = ours.opens;
      predicts = λ s. record { session = s; answer = (predict_of s).answer };
      corrects = λ s a. record { session = s; answer = (correct_of s a).answer };
      withdraws = λ s. record { session = s; answer = (withdraw_of s).answer };
      starts = ours.starts;
      refines = λ s floats. record { session = s; answer = (refine_of s floats).answer };
    }

-- steps truly once and then repeats: from the first accepted point on it answers with that point
abbrev pub same_prediction : ℕ → Session → Prediction → Prediction
same_prediction zero s r = r
same_prediction (suc n) s (Ok q) = Ok (reported_point (present_point s))
same_prediction (suc n) s (Err m) = Err m

abbrev pub stayed : Session → Session
stayed s = let t = settled_again s in became t Settled (t.accepted + 1) 0 t.x t.y t.z

abbrev pub same_correction : ℕ → Session → AfterCorrect → Correction → AfterCorrect
same_correction zero s r c = r
same_correction (suc n) s r (C.Accepted q) = record { session = stayed s; answer = C.Accepted (reported_point (present_point s)) }
same_correction (suc n) s r (C.Again q d) = r
same_correction (suc n) s r (C.Refused m) = r

abbrev pub repeating : Implementation
repeating =
    record {
      opens = ours.opens;
      predicts = λ s. record { session = (predict_of s).session; answer = same_prediction s.accepted s (predict_of s).answer };
      corrects = λ s a. same_correction s.accepted s (correct_of s a) (correct_of s a).answer;
      withdraws = withdraw_of;
      starts = ours.starts;
      refines = refine_of;
    }

-- reports points that it made up: it accepts without moving
abbrev pub inventing_points : Implementation
inventing_points =
    record {
      opens = ours.opens;
      predicts = predict_of;
      corrects = λ s a. record { session = s; answer = C.Accepted no_point };
      withdraws = withdraw_of;
      starts = ours.starts;
      refines = refine_of;
    }

-- reports corrections that it made up: a prediction counts one
abbrev pub one_correction : Session → Session
one_correction s = became s s.state s.accepted 1 s.x s.y s.z

abbrev pub inventing_corrections : Implementation
inventing_corrections =
    record {
      opens = ours.opens;
      predicts = λ s. record { session = one_correction (predict_of s).session; answer = (predict_of s).answer };
      corrects = correct_of;
      withdraws = withdraw_of;
      starts = ours.starts;
      refines = refine_of;
    }

-- opens at its first round, which was compared with nothing
abbrev pub opened_at_once : Request → AfterRound → Outcome → AfterRound
opened_at_once r a (R.More c) =
    let round = first_round r in
    record { session = opened_round r.tolerances r.limit round; answer = told R.Opened round }
opened_at_once r a R.Opened = a
opened_at_once r a (R.Refused n) = a

abbrev pub opening_at_once : Implementation
opening_at_once =
    record {
      opens = ours.opens;
      predicts = predict_of;
      corrects = correct_of;
      withdraws = withdraw_of;
      starts = λ s r. opened_at_once r (start_of r) (start_of r).answer.outcome;
      refines = refine_of;
    }

-- opens at any later round that is not refused, however far it moved
abbrev pub opened_anyhow : Session → List Float → AfterRound → Outcome → AfterRound
opened_anyhow s floats a (R.More c) =
    let round = later_round s floats in
    record { session = opened_round s.tolerances s.limit round; answer = told R.Opened round }
opened_anyhow s floats a R.Opened = a
opened_anyhow s floats a (R.Refused n) = a

abbrev pub opening_anyhow : Implementation
opening_anyhow =
    record {
      opens = ours.opens;
      predicts = predict_of;
      corrects = correct_of;
      withdraws = withdraw_of;
      starts = ours.starts;
      refines = λ s floats. opened_anyhow s floats (refine_of s floats) (refine_of s floats).answer.outcome;
    }

-- counts no round: a later round that asks for more leaves the count at 0, so that no round is the last
abbrev pub uncounted : Session → Outcome → Session
uncounted s (R.More c) = became s s.state s.accepted 0 s.x s.y s.z
uncounted s R.Opened = s
uncounted s (R.Refused n) = s

abbrev pub never_counting : Implementation
never_counting =
    record {
      opens = ours.opens;
      predicts = predict_of;
      corrects = correct_of;
      withdraws = withdraw_of;
      starts = ours.starts;
      refines = λ s floats. let a = refine_of s floats in record { session = uncounted a.session a.answer.outcome; answer = a.answer };
    }

-- looks at positions alone: accepts a point, also at the last correction, where no position moved beyond its tolerance, however the velocities moved
abbrev pub positions_agree : Tolerances → Point → Point → Bool
positions_agree t q before =
    within t.position q.x.position before.x.position
    and within t.position q.y.position before.y.position
    and within t.position q.z.position before.z.position

abbrev pub accepted_by : Bool → Session → Sample → AfterCorrect → Correction → AfterCorrect
accepted_by false s a r c = r
accepted_by true s a r (C.Accepted q) = r
accepted_by true s a r (C.Again q c) = record { session = accepted_at s (whole_of a); answer = C.Accepted q }
accepted_by true s a r (C.Refused n) =
    cond (eqb n 8) (record { session = accepted_at s (whole_of a); answer = C.Accepted (reported_point (corrected_point s (whole_of a))) }) r

abbrev pub ignoring_velocities : Implementation
ignoring_velocities =
    record {
      opens = ours.opens;
      predicts = predict_of;
      corrects = λ s a. accepted_by (positions_agree s.tolerances (corrected_point s (whole_of a)) (estimate_of s)) s a (correct_of s a) (correct_of s a).answer;
      withdraws = withdraw_of;
      starts = ours.starts;
      refines = refine_of;
    }

-- the same in rounds: opens at a later round that is not refused where no position moved beyond its tolerance
abbrev pub opened_by : Bool → Session → List Float → AfterRound → AfterRound
opened_by false s floats a = a
opened_by true s floats a = opened_anyhow s floats a a.answer.outcome

abbrev pub ignoring_velocities_of_rounds : Implementation
ignoring_velocities_of_rounds =
    record {
      opens = ours.opens;
      predicts = predict_of;
      corrects = correct_of;
      withdraws = withdraw_of;
      starts = ours.starts;
      refines =
          λ s floats.
          opened_by
          (every_below s.points (λ j. positions_agree s.tolerances (earlier_point (later_round s floats) j) (earlier_point (held_round s) j)))
          s floats (refine_of s floats);
    }

-- keeps the record that was there where it refuses an open
abbrev pub kept_by : Opening → Session → Session → Session
kept_by (Ok _) s t = t
kept_by (Err n) s t = s

abbrev pub keeping : Implementation
keeping =
    record {
      opens = λ s r. record { session = kept_by (open_of r).answer s (open_of r).session; answer = (open_of r).answer };
      predicts = predict_of;
      corrects = correct_of;
      withdraws = withdraw_of;
      starts = ours.starts;
      refines = refine_of;
    }

-- the same of a first round
abbrev pub kept_by_round : Outcome → Session → Session → Session
kept_by_round (R.More c) s t = t
kept_by_round R.Opened s t = t
kept_by_round (R.Refused n) s t = s

abbrev pub keeping_starts : Implementation
keeping_starts =
    record {
      opens = ours.opens;
      predicts = predict_of;
      corrects = correct_of;
      withdraws = withdraw_of;
      starts = λ s r. record { session = kept_by_round (start_of r).answer.outcome s (start_of r).session; answer = (start_of r).answer };
      refines = refine_of;
    }
