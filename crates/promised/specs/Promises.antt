-- What the promise of each entry point allows: for what the call was given, the record that it leaves and its answer. Definitions only.
use Rattle.std.specs.Prelude.{◌≡◌, List, ℕ, Float}
use Rattle.ticks.specs.declared.Sample.{Sample}
use Rattle.session.specs.declared.Session.{Session}
use Rattle.session.specs.Requests.{Request}
use Rattle.steps.specs.declared.Correction.{Correction}
use Rattle.steps.specs.Answers.{opening_answer, prediction_answer, correction_answer, withdrawal_answer, Opening, Prediction, Withdrawal}
use Rattle.steps.specs.Steps.{open_of, open_answer, predict_of, predict_answer, correct_of, correct_answer, withdraw_of, withdraw_answer}
use Rattle.epoch_steps.specs.declared.RoundAnswer.{RoundAnswer}
use Rattle.epoch_steps.specs.Answers.{round_answer}
use Rattle.epoch_steps.specs.Steps.{start_of, start_answer, refine_of, refine_answer}
use Rattle.running.specs.declared.RunAnswer.{RunAnswer}
use Rattle.running.specs.Runs.{run_of}
use Rattle.running.specs.Bound.{WithinAllowance}

abbrev pub OpenAllows : Request → Session → Opening → Type 0
OpenAllows r left answer = (left ≡ (open_of r).session) × (answer ≡ (open_of r).answer) × (opening_answer answer ≡ open_answer r)

abbrev pub PredictAllows : Session → Session → Prediction → Type 0
PredictAllows s left answer = (left ≡ (predict_of s).session) × (answer ≡ (predict_of s).answer) × (prediction_answer answer ≡ predict_answer s)

abbrev pub CorrectAllows : Session → Sample → Session → Correction → Type 0
CorrectAllows s a left answer = (left ≡ (correct_of s a).session) × (answer ≡ (correct_of s a).answer) × (correction_answer answer ≡ correct_answer s a)

abbrev pub WithdrawAllows : Session → Session → Withdrawal → Type 0
WithdrawAllows s left answer = (left ≡ (withdraw_of s).session) × (answer ≡ (withdraw_of s).answer) × (withdrawal_answer answer ≡ withdraw_answer s)

abbrev pub StartAllows : Request → Session → RoundAnswer → Type 0
StartAllows r left answer = (left ≡ (start_of r).session) × (answer ≡ (start_of r).answer) × (round_answer answer ≡ start_answer r)

abbrev pub RefineAllows : Session → List Float → Session → RoundAnswer → Type 0
RefineAllows s floats left answer = (left ≡ (refine_of s floats).session) × (answer ≡ (refine_of s floats).answer) × (round_answer answer ≡ refine_answer s floats)

abbrev pub RunAllows : Session → List Float → ℕ → Session → RunAnswer → Type 0
RunAllows s floats wanted left answer =
    (left ≡ (run_of s floats wanted).session) × (answer ≡ (run_of s floats wanted).answer) × WithinAllowance s.limit answer
