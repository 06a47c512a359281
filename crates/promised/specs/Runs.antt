-- Calls one after the other, of which nothing is known but that what each leaves and answers is allowed by its promise. Lists have the latest first.
-- Definitions only.
use Rattle.std.specs.Prelude.{List, [], ◌∷◌, Float}
use Rattle.ticks.specs.declared.Sample.{Sample}
use Rattle.session.specs.declared.Session.{Session}
use Rattle.session.specs.Requests.{Request}
use Rattle.steps.specs.declared.Correction.{Correction}
use Rattle.epoch_steps.specs.declared.RoundAnswer.{RoundAnswer}
use Rattle.demands.specs.Histories.{Call, predict, correct, withdraw, refine, Event, predicting, correcting, withdrawing, refining, Act, opening, beginning, calling, Implementation}
use Rattle.promised.specs.Promises.{OpenAllows, PredictAllows, CorrectAllows, WithdrawAllows, StartAllows, RefineAllows}
use Rattle.steps.specs.Answers.{Opening, Prediction, Withdrawal}

-- on a record a call may leave this record and answer so
pub data Allowed : Session → Call → Session → Event → Type 0 where
  predicted : {s left : Session} {r : Prediction} → PredictAllows s left r → Allowed s predict left (predicting r)
  corrected : {s left : Session} {a : Sample} {r : Correction} → CorrectAllows s a left r → Allowed s (correct a) left (correcting a r)
  withdrawn : {s left : Session} {r : Withdrawal} → WithdrawAllows s left r → Allowed s withdraw left (withdrawing r)
  refined : {s left : Session} {floats : List Float} {r : RoundAnswer} → RefineAllows s floats left r → Allowed s (refine floats) left (refining floats r)

-- calls on a record up to its next opening: they may leave this record, with these answers
pub data Runs : Session → List Call → Session → List Event → Type 0 where
  untouched : {s : Session} → Runs s [] s []
  then : {s t left : Session} {call : Call} {calls : List Call} {e : Event} {es : List Event} →
      Runs s calls t es → Allowed t call left e → Runs s (call ∷ calls) left (e ∷ es)

-- openings and first rounds among the calls
pub data Lives : Session → List Act → Session → Type 0 where
  new : {s : Session} → Lives s [] s
  opened : {s t left : Session} {acts : List Act} {r : Request} {a : Opening} → Lives s acts t → OpenAllows r left a → Lives s (opening r ∷ acts) left
  begun : {s t left : Session} {acts : List Act} {r : Request} {a : RoundAnswer} → Lives s acts t → StartAllows r left a → Lives s (beginning r ∷ acts) left
  called : {s t left : Session} {acts : List Act} {call : Call} {e : Event} → Lives s acts t → Allowed t call left e → Lives s (calling call ∷ acts) left

-- six functions of which every result is allowed
pub record Keeps (I : Implementation) : Type 0 where
  pub opens : (s : Session) (r : Request) → OpenAllows r (I.opens s r).session (I.opens s r).answer
  pub predicts : (s : Session) → PredictAllows s (I.predicts s).session (I.predicts s).answer
  pub corrects : (s : Session) (a : Sample) → CorrectAllows s a (I.corrects s a).session (I.corrects s a).answer
  pub withdraws : (s : Session) → WithdrawAllows s (I.withdraws s).session (I.withdraws s).answer
  pub starts : (s : Session) (r : Request) → StartAllows r (I.starts s r).session (I.starts s r).answer
  pub refines : (s : Session) (floats : List Float) → RefineAllows s floats (I.refines s floats).session (I.refines s floats).answer
