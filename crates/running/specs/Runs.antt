-- A run: single calls, one after the other, that predict and correct with the samples of a slice. Definitions only.
use Rattle.std.specs.Prelude.{ℕ, zero, suc, ◌+◌, ◌%◌, Bool, true, false, not, ◌||◌, List, [], ◌∷◌, eqb, leb, Float, length, Ok, Err}
use Rattle.rules.specs.Rules.{first_of}
use Rattle.ticks.specs.declared.Sample.{Sample}
use Rattle.session.specs.declared.Session.{Session}
use Rattle.session.specs.Holding.{is_awaiting, settled}
use Rattle.steps.specs.declared.Correction.{Correction}
use Rattle.steps.specs.declared.Correction.TheVariants as C
use Rattle.steps.specs.Steps.{predict_of, correct_of}
use Rattle.steps.specs.declared.After.{After}
use Rattle.running.specs.declared.RunAnswer.{RunAnswer}
use Rattle.running.specs.Samples.{samples_in}
use Rattle.steps.specs.Answers.{Prediction}

-- the record as a run leaves it, beside the answer
abbrev pub AfterRun : Type 0
AfterRun = After RunAnswer

-- what a run has come to: the session, the number of its last call, the points settled and the samples used
abbrev pub come : Session → ℕ → ℕ → ℕ → AfterRun
come session number points used = record { session = session; answer = record { number = number; points = points; used = used } }

-- ---- one sample

-- a correction has used it: a point is settled, or to be corrected again, or the sample is refused
abbrev pub corrected : RunAnswer → Session → Correction → AfterRun
corrected r s (C.Accepted q) = come s 0 (r.points + 1) (r.used + 1)
corrected r s (C.Again q c) = come s 0 r.points (r.used + 1)
corrected r s (C.Refused n) = come s n r.points (r.used + 1)

abbrev pub correcting : RunAnswer → Session → Sample → AfterRun
correcting r s a = corrected r (correct_of s a).session (correct_of s a).answer

-- a prediction comes before it; where that is refused the sample is not used
abbrev pub predicted : RunAnswer → Sample → Session → Prediction → AfterRun
predicted r a s (Ok q) = correcting r s a
predicted r a s (Err n) = come s n r.points r.used

abbrev pub predicting : RunAnswer → Session → Sample → AfterRun
predicting r s a = predicted r a (predict_of s).session (predict_of s).answer

-- a session that awaits a correction is corrected, another predicts first
abbrev pub taken_by : Bool → RunAnswer → Session → Sample → AfterRun
taken_by true r s a = correcting r s a
taken_by false r s a = predicting r s a

unfoldable pub taken : AfterRun → Sample → AfterRun
taken run a = taken_by (is_awaiting run.session.state) run.answer run.session a

-- ---- sample after sample, until the run is over or no sample is left

-- a call was refused, or it has the points
unfoldable pub over : ℕ → RunAnswer → Bool
over wanted r = not (eqb r.number 0) || leb wanted r.points

-- by whether it is over
abbrev pub on_by : Bool → AfterRun → AfterRun → AfterRun
on_by true run rest = run
on_by false run rest = rest

unfoldable pub on : ℕ → AfterRun → List Sample → AfterRun
on wanted run [] = run
on wanted run (a ∷ left) = on_by (over wanted run.answer) run (on wanted (taken run a) left)

-- ---- the run: 7 unless the session is settled, then 2 unless the floats are three for each sample; nothing is called then

abbrev pub run_rules : Session → List Float → List (Bool × ℕ)
run_rules s floats =
    (not (settled s), 7)
    ∷ (not (eqb (length floats % 3) 0), 2)
    ∷ []

unfoldable pub run_refusal : Session → List Float → ℕ
run_refusal s floats = first_of (run_rules s floats)

abbrev pub run_by : ℕ → Session → List Float → ℕ → AfterRun
run_by zero s floats wanted = on wanted (come s 0 0 0) (samples_in floats)
run_by (suc n) s floats wanted = come s (suc n) 0 0

unfoldable pub run_of : Session → List Float → ℕ → AfterRun
run_of s floats wanted = run_by (run_refusal s floats) s floats wanted
