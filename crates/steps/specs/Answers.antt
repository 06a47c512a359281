-- The paper's number and values of every answer: zeros where an answer carries nothing. Definitions only.
use Rattle.std.specs.Prelude.{ℕ, zero, suc, Result, Ok, Err}
use Rattle.rules.specs.Rules.{NotZero}
use Rattle.exact.specs.Report.{reported_of}
use Rattle.axis.specs.declared.Motion.{Motion}
use Rattle.axis.specs.Formulas.{still}
use Rattle.axis.specs.Agreement.{sizes}
use Rattle.axis.specs.Kinds.{Kind}
use Rattle.session.specs.declared.Point.{Point}
use Rattle.session.specs.Moves.{nowhere}
use Rattle.steps.specs.declared.ReportedMotion.{ReportedMotion}
use Rattle.steps.specs.declared.ReportedPoint.{ReportedPoint}
use Rattle.steps.specs.declared.Answer.{Answer}
use Rattle.steps.specs.declared.After.{After}
use Rattle.steps.specs.declared.Correction.{Correction}
use Rattle.steps.specs.declared.Correction.TheVariants as C

-- ---- reports

unfoldable pub reported_motion : Motion → ReportedMotion
reported_motion m = record { position = reported_of m.position; velocity = reported_of m.velocity }

unfoldable pub reported_point : Point → ReportedPoint
reported_point q = record { x = reported_motion q.x; y = reported_motion q.y; z = reported_motion q.z }

-- the largest change of each kind, a size
unfoldable pub reported_change : (Kind → ℕ) → ReportedMotion
reported_change size = reported_motion (sizes size)

unfoldable pub no_point : ReportedPoint
no_point = reported_point nowhere

unfoldable pub no_change : ReportedMotion
no_change = reported_motion still

-- ---- what a call answers, and the number that refuses it

abbrev pub Opening : Type 0
Opening = Result (Unit {0}) ℕ

abbrev pub Prediction : Type 0
Prediction = Result ReportedPoint ℕ

abbrev pub Withdrawal : Type 0
Withdrawal = Result (Unit {0}) ℕ

-- the record as a call leaves it, beside the answer
abbrev pub AfterOpen : Type 0
AfterOpen = After Opening

abbrev pub AfterPredict : Type 0
AfterPredict = After Prediction

abbrev pub AfterCorrect : Type 0
AfterCorrect = After Correction

abbrev pub AfterWithdraw : Type 0
AfterWithdraw = After Withdrawal

-- a value, unless a number refuses it
abbrev pub unrefused : {A : Type 0} → ℕ → A → Result A ℕ
unrefused zero value = Ok value
unrefused (suc n) value = Err (suc n)

-- ---- one shape for the answers of the four calls

-- the kind tells an accepted point, 1, and one to be corrected again, 2, from all other answers, 0
abbrev pub answer : ℕ → ℕ → ReportedPoint → ReportedMotion → Answer
answer number kind point change = record { number = number; kind = kind; point = point; change = change }

-- what only a call that is not refused carries
abbrev pub unless : {A : Type 0} → ℕ → A → A → A
unless zero value none = value
unless (suc n) value none = none

-- the number, and zero in every other field
abbrev pub refused : ℕ → Answer
refused n = answer n 0 no_point no_change

abbrev pub opening_answer : Opening → Answer
opening_answer (Ok _) = answer 0 0 no_point no_change
opening_answer (Err n) = refused n

abbrev pub prediction_answer : Prediction → Answer
prediction_answer (Ok q) = answer 0 0 q no_change
prediction_answer (Err n) = refused n

abbrev pub correction_answer : Correction → Answer
correction_answer (C.Accepted q) = answer 0 1 q no_change
correction_answer (C.Again q c) = answer 0 2 q c
correction_answer (C.Refused n) = refused n

abbrev pub withdrawal_answer : Withdrawal → Answer
withdrawal_answer (Ok _) = answer 0 0 no_point no_change
withdrawal_answer (Err n) = refused n

-- ---- a refusal's number is not 0

abbrev pub NumberedOpening : Opening → Type 0
NumberedOpening (Ok _) = Unit {0}
NumberedOpening (Err n) = NotZero n

abbrev pub NumberedPrediction : Prediction → Type 0
NumberedPrediction (Ok q) = Unit {0}
NumberedPrediction (Err n) = NotZero n

abbrev pub NumberedCorrection : Correction → Type 0
NumberedCorrection (C.Accepted q) = Unit {0}
NumberedCorrection (C.Again q c) = Unit {0}
NumberedCorrection (C.Refused n) = NotZero n

abbrev pub NumberedWithdrawal : Withdrawal → Type 0
NumberedWithdrawal (Ok _) = Unit {0}
NumberedWithdrawal (Err n) = NotZero n
