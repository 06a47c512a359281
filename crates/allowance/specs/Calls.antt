-- The single calls that a run makes, and histories with runs in them. Lists of calls, of events and of turns have the latest first. Definitions only.
use Rattle.std.specs.Prelude.{ℕ, zero, suc, Bool, true, false, List, [], ◌∷◌, ◌++◌, Float, length, Ok, Err}
use Rattle.ticks.specs.declared.Sample.{Sample}
use Rattle.session.specs.declared.Session.{Session}
use Rattle.session.specs.Holding.{is_awaiting}
use Rattle.steps.specs.Answers.{prediction_answer, correction_answer, withdrawal_answer, Prediction}
use Rattle.steps.specs.Steps.{predict_of}
use Rattle.epoch_steps.specs.Answers.{round_answer}
use Rattle.running.specs.declared.RunAnswer.{RunAnswer}
use Rattle.running.specs.Samples.{samples_in}
use Rattle.running.specs.Runs.{come, taken, over, run_refusal, run_of, AfterRun}
use Rattle.demands.specs.Histories.{Call, predict, correct, withdraw, refine, Event, predicting, correcting, withdrawing, refining, ours, step, entries}

-- ---- the calls of a run

-- for one sample: a correction, and before it a prediction where the session awaits none; one that is refused is the last call
abbrev pub calls_after : Prediction → Sample → List Call
calls_after (Ok q) a = correct a ∷ predict ∷ []
calls_after (Err n) a = predict ∷ []

abbrev pub calls_by : Bool → Session → Sample → List Call
calls_by true s a = correct a ∷ []
calls_by false s a = calls_after (predict_of s).answer a

abbrev pub calls_for : Session → Sample → List Call
calls_for s a = calls_by (is_awaiting s.state) s a

-- for samples, until the run is over
abbrev pub unless_over : Bool → List Call → List Call
unless_over true calls = []
unless_over false calls = calls

abbrev pub calls_on : ℕ → AfterRun → List Sample → List Call
calls_on wanted run [] = []
calls_on wanted run (a ∷ left) = unless_over (over wanted run.answer) (calls_on wanted (taken run a) left ++ calls_for run.session a)

-- none where the run itself is refused
abbrev pub run_calls_by : ℕ → Session → List Float → ℕ → List Call
run_calls_by zero s floats wanted = calls_on wanted (come s 0 0 0) (samples_in floats)
run_calls_by (suc n) s floats wanted = []

abbrev pub run_calls : Session → List Float → ℕ → List Call
run_calls s floats wanted = run_calls_by (run_refusal s floats) s floats wanted

-- the samples that corrections are made with, the earliest first
abbrev pub handed : List Call → List Sample
handed [] = []
handed (predict ∷ calls) = handed calls
handed (correct a ∷ calls) = handed calls ++ a ∷ []
handed (withdraw ∷ calls) = handed calls
handed (refine floats ∷ calls) = handed calls

-- ---- what the answers of calls tell: the number of the last, the points accepted, and the samples that corrections were made with

abbrev pub number_of : Event → ℕ
number_of (predicting r) = (prediction_answer r).number
number_of (correcting a r) = (correction_answer r).number
number_of (withdrawing r) = (withdrawal_answer r).number
number_of (refining floats r) = (round_answer r).number

abbrev pub last_number : List Event → ℕ
last_number [] = 0
last_number (e ∷ es) = number_of e

abbrev pub samples_read : List Event → ℕ
samples_read [] = 0
samples_read (predicting r ∷ es) = samples_read es
samples_read (correcting a r ∷ es) = suc (samples_read es)
samples_read (withdrawing r ∷ es) = samples_read es
samples_read (refining floats r ∷ es) = samples_read es

abbrev pub told : List Event → RunAnswer
told es = record { number = last_number es; points = length (entries es); used = samples_read es }

-- ---- histories with runs in them

pub data Turn : Type 0 where
  single : Call → Turn
  running : List Float → ℕ → Turn

-- the record that turns leave, and the single calls that they come to
abbrev pub left_by : Session → List Turn → Session
left_by s [] = s
left_by s (single call ∷ turns) = step ours (left_by s turns) call
left_by s (running floats wanted ∷ turns) = (run_of (left_by s turns) floats wanted).session

abbrev pub calls_in : Session → List Turn → List Call
calls_in s [] = []
calls_in s (single call ∷ turns) = call ∷ calls_in s turns
calls_in s (running floats wanted ∷ turns) = run_calls (left_by s turns) floats wanted ++ calls_in s turns
