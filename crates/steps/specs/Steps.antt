-- The four calls: the record and the answer that each gives, and that answer in the paper's shape. Definitions only.
use Rattle.std.specs.Prelude.{ℕ, zero, suc, ◌+◌, Bool, true, false, cond, eqb, Ok, Err}
use Rattle.ticks.specs.declared.Sample.{Sample}
use Rattle.ticks.specs.declared.WholeSample.{WholeSample}
use Rattle.ticks.specs.Samples.{whole_of}
use Rattle.session.specs.declared.Point.{Point}
use Rattle.session.specs.declared.Session.{Session}
use Rattle.session.specs.Moves.{predicted_point, corrected_point, settled_again, awaiting_at, accepted_at, closed_session}
use Rattle.steps.specs.declared.Correction.TheVariants as C
use Rattle.steps.specs.declared.Answer.{Answer}
use Rattle.steps.specs.Answers.{AfterOpen, AfterPredict, AfterCorrect, AfterWithdraw, answer, unless, no_point, no_change, reported_point, reported_change}
use Rattle.session.specs.Requests.{Request, exact_point}
use Rattle.steps.specs.Opening.{opened_with}
use Rattle.steps.specs.Refusals.{open_refusal, predict_refusal, correct_refusal, withdraw_refusal, agrees, largest_change}

-- ---- open: whatever the record held before

abbrev pub open_by : ℕ → Request → AfterOpen
open_by zero r = record { session = opened_with r.points r.tolerances r.limit (exact_point r.point) r.floats; answer = Ok tt }
open_by (suc n) r = record { session = closed_session; answer = Err (suc n) }

unfoldable pub open_of : Request → AfterOpen
open_of r = open_by (open_refusal r) r

-- ---- predict

abbrev pub predict_by : ℕ → Session → AfterPredict
predict_by zero s = record { session = awaiting_at s 0 (predicted_point s); answer = Ok (reported_point (predicted_point s)) }
predict_by (suc n) s = record { session = s; answer = Err (suc n) }

unfoldable pub predict_of : Session → AfterPredict
predict_of s = predict_by (predict_refusal s) s

-- ---- correct

-- the point agrees with the last estimate, and is accepted, or does not, and is to be corrected again
abbrev pub judged : Bool → Session → WholeSample → Point → AfterCorrect
judged true s w q = record { session = accepted_at s w; answer = C.Accepted (reported_point q) }
judged false s w q = record { session = awaiting_at s (s.corrections + 1) q; answer = C.Again (reported_point q) (reported_change (largest_change s q)) }

-- 8 ends the wait; every other refusal leaves the record as it was
abbrev pub correct_by : ℕ → Session → WholeSample → AfterCorrect
correct_by zero s w = judged (agrees s (corrected_point s w)) s w (corrected_point s w)
correct_by (suc n) s w = record { session = cond (eqb (suc n) 8) (settled_again s) s; answer = C.Refused (suc n) }

unfoldable pub correct_of : Session → Sample → AfterCorrect
correct_of s a = correct_by (correct_refusal s a) s (whole_of a)

-- ---- withdraw

abbrev pub withdraw_by : ℕ → Session → AfterWithdraw
withdraw_by zero s = record { session = settled_again s; answer = Ok tt }
withdraw_by (suc n) s = record { session = s; answer = Err (suc n) }

unfoldable pub withdraw_of : Session → AfterWithdraw
withdraw_of s = withdraw_by (withdraw_refusal s) s

-- ---- what each call answers, in the paper's shape: the number of the first rule that applies, and zeros beside it unless it is 0

abbrev pub open_answer : Request → Answer
open_answer r = answer (open_refusal r) 0 no_point no_change

abbrev pub predict_answer_by : ℕ → Session → Answer
predict_answer_by n s = answer n 0 (unless n (reported_point (predicted_point s)) no_point) no_change

abbrev pub predict_answer : Session → Answer
predict_answer s = predict_answer_by (predict_refusal s) s

-- kind 1 without a change, or 2 with one
abbrev pub correct_answer_by : ℕ → Session → Point → Answer
correct_answer_by n s q =
    answer n
    (unless n (cond (agrees s q) 1 2) 0)
    (unless n (reported_point q) no_point)
    (unless n (cond (agrees s q) no_change (reported_change (largest_change s q))) no_change)

abbrev pub correct_answer : Session → Sample → Answer
correct_answer s a = correct_answer_by (correct_refusal s a) s (corrected_point s (whole_of a))

abbrev pub withdraw_answer : Session → Answer
withdraw_answer s = answer (withdraw_refusal s) 0 no_point no_change
