-- Implementations, calls, and what calls on a record bring about: the record afterwards, the answers, and the points that were accepted.
-- Lists of calls, of events and of points have the latest first. Definitions only.
use Rattle.std.specs.Prelude.{ℕ, suc, List, [], ◌∷◌, map, Float, Ok, Err}
use Rattle.ticks.specs.declared.Sample.{Sample}
use Rattle.ticks.specs.declared.WholeSample.{WholeSample}
use Rattle.ticks.specs.Samples.{whole_of}
use Rattle.session.specs.declared.Session.{Session}
use Rattle.session.specs.Requests.{Request}
use Rattle.steps.specs.declared.ReportedPoint.{ReportedPoint}
use Rattle.steps.specs.declared.Correction.{Correction}
use Rattle.steps.specs.declared.Correction.TheVariants as C
use Rattle.steps.specs.Steps.{open_of, predict_of, correct_of, withdraw_of}
use Rattle.epoch_steps.specs.declared.RoundAnswer.{RoundAnswer}
use Rattle.epoch_steps.specs.declared.Outcome.{Outcome}
use Rattle.epoch_steps.specs.declared.Outcome.TheVariants as R
use Rattle.epoch_steps.specs.Steps.{start_of, refine_of}
use Rattle.steps.specs.Answers.{Prediction, Withdrawal, AfterOpen, AfterPredict, AfterCorrect, AfterWithdraw}
use Rattle.epoch_steps.specs.Answers.{AfterRound}

-- ---- implementations

-- the six calls, as functions of what they are given; an opening and a first round are given the record that they replace, too
pub record Implementation : Type 0 where
  pub opens : Session → Request → AfterOpen
  pub predicts : Session → AfterPredict
  pub corrects : Session → Sample → AfterCorrect
  pub withdraws : Session → AfterWithdraw
  pub starts : Session → Request → AfterRound
  pub refines : Session → List Float → AfterRound

-- the definitions that our functions are proved to compute
abbrev pub ours : Implementation
ours =
    record {
      opens = λ s. open_of;
      predicts = predict_of;
      corrects = correct_of;
      withdraws = withdraw_of;
      starts = λ s. start_of;
      refines = refine_of;
    }

-- ---- histories: any calls on a record up to its next opening or first round. A call that is refused is a call.

pub data Call : Type 0 where
  predict : Call
  correct : Sample → Call
  withdraw : Call
  refine : List Float → Call

-- a call with its answer
pub data Event : Type 0 where
  predicting : Prediction → Event
  correcting : Sample → Correction → Event
  withdrawing : Withdrawal → Event
  refining : List Float → RoundAnswer → Event

-- the record that a call leaves, and the event
abbrev pub step : Implementation → Session → Call → Session
step I s predict = (I.predicts s).session
step I s (correct a) = (I.corrects s a).session
step I s withdraw = (I.withdraws s).session
step I s (refine floats) = (I.refines s floats).session

abbrev pub event : Implementation → Session → Call → Event
event I s predict = predicting (I.predicts s).answer
event I s (correct a) = correcting a (I.corrects s a).answer
event I s withdraw = withdrawing (I.withdraws s).answer
event I s (refine floats) = refining floats (I.refines s floats).answer

-- the record after calls, and the history of their answers
abbrev pub after : Implementation → Session → List Call → Session
after I s [] = s
after I s (call ∷ calls) = step I (after I s calls) call

abbrev pub history : Implementation → Session → List Call → List Event
history I s [] = []
history I s (call ∷ calls) = event I (after I s calls) call ∷ history I s calls

-- openings and first rounds among the calls
pub data Act : Type 0 where
  opening : Request → Act
  beginning : Request → Act
  calling : Call → Act

abbrev pub lived : Implementation → Session → List Act → Session
lived I s [] = s
lived I s (opening r ∷ acts) = (I.opens (lived I s acts) r).session
lived I s (beginning r ∷ acts) = (I.starts (lived I s acts) r).session
lived I s (calling call ∷ acts) = step I (lived I s acts) call

-- ---- what the answers of a history tell

-- a point that was accepted: the rounded sample of that very call, and the point that its answer carried
pub record Entry : Type 0 where
  pub sample : WholeSample
  pub point : ReportedPoint

abbrev pub entered : Sample → Correction → List Entry → List Entry
entered a (C.Accepted q) es = record { sample = whole_of a; point = q } ∷ es
entered a (C.Again q c) es = es
entered a (C.Refused n) es = es

-- the accepted points of a history
abbrev pub entries : List Event → List Entry
entries [] = []
entries (predicting r ∷ es) = entries es
entries (correcting a r ∷ es) = entered a r (entries es)
entries (withdrawing r ∷ es) = entries es
entries (refining floats r ∷ es) = entries es

abbrev pub samples_of : List Entry → List WholeSample
samples_of = map (λ e. e.sample)

-- the answers *again* since the last prediction; n is what there were before the history
abbrev pub restarted : Prediction → ℕ → ℕ
restarted (Ok q) n = 0
restarted (Err m) n = n

abbrev pub counted : Correction → ℕ → ℕ
counted (C.Accepted q) n = n
counted (C.Again q c) n = suc n
counted (C.Refused m) n = n

abbrev pub agains : ℕ → List Event → ℕ
agains n [] = n
agains n (predicting r ∷ es) = restarted r (agains n es)
agains n (correcting a r ∷ es) = counted r (agains n es)
agains n (withdrawing r ∷ es) = agains n es
agains n (refining floats r ∷ es) = agains n es

-- the later rounds that asked for more; n is what there were before the history
abbrev pub counted_round : Outcome → ℕ → ℕ
counted_round (R.More c) n = suc n
counted_round R.Opened n = n
counted_round (R.Refused m) n = n

abbrev pub mores : ℕ → List Event → ℕ
mores n [] = n
mores n (predicting r ∷ es) = mores n es
mores n (correcting a r ∷ es) = mores n es
mores n (withdrawing r ∷ es) = mores n es
mores n (refining floats r ∷ es) = counted_round r.outcome (mores n es)
