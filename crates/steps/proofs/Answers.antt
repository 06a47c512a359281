-- The answers: their shape is one to one, and what each call answers in that shape.
use mathlib.Core.Path.{◌≡◌, refl, sym, ap}
use mathlib.Core.Bool.{Bool, true, false, cond}
use Prim.Native.Nat.{ℕ, zero, suc}
use native.Mathlib.Nat.{suc-ne-zero}
use native.Mathlib.Omega.{arith}
use lib.IntN.{pos}
use lib.Ieee.{fin, add, div, of_int}
use Rattle.exact.specs.declared.Reported.{Reported}
use Rattle.exact.specs.Numerator.{exact_of, wholly}
use Rattle.ticks.specs.declared.Sample.{Sample}
use Rattle.ticks.specs.Samples.{whole_of}
use Rattle.axis.specs.Formulas.{motion_of, still}
use Rattle.session.specs.declared.Point.{Point}
use Rattle.session.specs.declared.Session.{Session}
use Rattle.session.specs.Moves.{nowhere, corrected_point}
use Rattle.session.specs.Requests.{Request}
use Rattle.steps.specs.declared.ReportedMotion.{ReportedMotion}
use Rattle.steps.specs.declared.Correction.{Correction}
use Rattle.steps.specs.declared.Correction.TheVariants as C
use Rattle.steps.specs.Answers.{answer, no_point, no_change, reported_motion, reported_point, reported_change, opening_answer, prediction_answer, correction_answer, withdrawal_answer, NumberedOpening, NumberedPrediction, NumberedCorrection, NumberedWithdrawal, Opening, Prediction, Withdrawal}
use Rattle.steps.specs.Refusals.{open_refusal, predict_refusal, agrees, largest_change, correct_refusal, withdraw_refusal}
use Rattle.steps.specs.Steps.{open_by, open_of, open_answer, predict_by, predict_of, predict_answer_by, predict_answer, judged, correct_by, correct_of, correct_answer_by, correct_answer, withdraw_by, withdraw_of, withdraw_answer}
use Rattle.std.specs.Prelude.{Ok, Err}

-- ---- the shape is one to one

pub one-opening : (a b : Opening) → NumberedOpening a → NumberedOpening b → opening_answer a ≡ opening_answer b → a ≡ b
one-opening (Ok _) (Ok _) f g e = refl
one-opening (Ok _) (Err n) f g e = absurd (g (sym (ap (λ r. r.number) e)))
one-opening (Err m) (Ok _) f g e = absurd (f (ap (λ r. r.number) e))
one-opening (Err m) (Err n) f g e = ap Err (ap (λ r. r.number) e)

pub one-prediction : (a b : Prediction) → NumberedPrediction a → NumberedPrediction b → prediction_answer a ≡ prediction_answer b → a ≡ b
one-prediction (Ok q) (Ok r) f g e = ap Ok (ap (λ r. r.point) e)
one-prediction (Ok q) (Err n) f g e = absurd (g (sym (ap (λ r. r.number) e)))
one-prediction (Err m) (Ok r) f g e = absurd (f (ap (λ r. r.number) e))
one-prediction (Err m) (Err n) f g e = ap Err (ap (λ r. r.number) e)

-- the kind tells a correction's cases apart whatever the number
pub one-correction : (a b : Correction) → correction_answer a ≡ correction_answer b → a ≡ b
one-correction (C.Accepted q) (C.Accepted r) e = ap C.Accepted (ap (λ r. r.point) e)
one-correction (C.Accepted q) (C.Again r d) e = absurd (omega (arith, ap (λ r. r.kind) e))
one-correction (C.Accepted q) (C.Refused n) e = absurd (omega (arith, ap (λ r. r.kind) e))
one-correction (C.Again q c) (C.Accepted r) e = absurd (omega (arith, ap (λ r. r.kind) e))
one-correction (C.Again q c) (C.Again r d) e = λ i. C.Again (e i).point (e i).change
one-correction (C.Again q c) (C.Refused n) e = absurd (omega (arith, ap (λ r. r.kind) e))
one-correction (C.Refused m) (C.Accepted r) e = absurd (omega (arith, ap (λ r. r.kind) e))
one-correction (C.Refused m) (C.Again r d) e = absurd (omega (arith, ap (λ r. r.kind) e))
one-correction (C.Refused m) (C.Refused n) e = ap C.Refused (ap (λ r. r.number) e)

pub one-withdrawal : (a b : Withdrawal) → NumberedWithdrawal a → NumberedWithdrawal b → withdrawal_answer a ≡ withdrawal_answer b → a ≡ b
one-withdrawal (Ok _) (Ok _) f g e = refl
one-withdrawal (Ok _) (Err n) f g e = absurd (g (sym (ap (λ r. r.number) e)))
one-withdrawal (Err m) (Ok _) f g e = absurd (f (ap (λ r. r.number) e))
one-withdrawal (Err m) (Err n) f g e = ap Err (ap (λ r. r.number) e)

-- ---- zero, where an answer carries nothing: +0 as a float

abbrev zeros : Reported
zeros = record { exact = wholly (pos 0); report = fin false 0 (pos 0) }

abbrev still-zeros : ReportedMotion
still-zeros = record { position = zeros; velocity = zeros }

pub no-point-is-zero : no_point ≡ record { x = still-zeros; y = still-zeros; z = still-zeros }
unfolding no_point reported_point reported_motion nowhere still motion_of exact_of add div of_int
no-point-is-zero = refl

pub no-change-is-zero : no_change ≡ still-zeros
unfolding no_change reported_motion still motion_of exact_of add div of_int
no-change-is-zero = refl

-- ---- what each call answers

module _ (r : Request) where
  pub open-answers : opening_answer (open_of r).answer ≡ open_answer r
  unfolding open_of
  open-answers = go (open_refusal r)
    where
      go : (n : ℕ) → opening_answer (open_by n r).answer ≡ answer n 0 no_point no_change
      go zero = refl
      go (suc n) = refl

  pub open-numbered : NumberedOpening (open_of r).answer
  unfolding open_of
  open-numbered = go (open_refusal r)
    where
      go : (n : ℕ) → NumberedOpening (open_by n r).answer
      go zero = tt
      go (suc n) = suc-ne-zero n

module _ (s : Session) where
  pub predict-answers : prediction_answer (predict_of s).answer ≡ predict_answer s
  unfolding predict_of
  predict-answers = go (predict_refusal s)
    where
      go : (n : ℕ) → prediction_answer (predict_by n s).answer ≡ predict_answer_by n s
      go zero = refl
      go (suc n) = refl

  pub predict-numbered : NumberedPrediction (predict_of s).answer
  unfolding predict_of
  predict-numbered = go (predict_refusal s)
    where
      go : (n : ℕ) → NumberedPrediction (predict_by n s).answer
      go zero = tt
      go (suc n) = suc-ne-zero n

  pub withdraw-answers : withdrawal_answer (withdraw_of s).answer ≡ withdraw_answer s
  unfolding withdraw_of
  withdraw-answers = go (withdraw_refusal s)
    where
      go : (n : ℕ) → withdrawal_answer (withdraw_by n s).answer ≡ answer n 0 no_point no_change
      go zero = refl
      go (suc n) = refl

  pub withdraw-numbered : NumberedWithdrawal (withdraw_of s).answer
  unfolding withdraw_of
  withdraw-numbered = go (withdraw_refusal s)
    where
      go : (n : ℕ) → NumberedWithdrawal (withdraw_by n s).answer
      go zero = tt
      go (suc n) = suc-ne-zero n

module _ (s : Session) (a : Sample) where
  abbrev corrected : Point
  corrected = corrected_point s (whole_of a)

  pub correct-answers : correction_answer (correct_of s a).answer ≡ correct_answer s a
  unfolding correct_of
  correct-answers = go (correct_refusal s a)
    where
      by : (t : Bool) → correction_answer (judged t s (whole_of a) corrected).answer ≡ answer 0 (cond t 1 2) (reported_point corrected) (cond t no_change (reported_change (largest_change s corrected)))
      by true = refl
      by false = refl

      go : (n : ℕ) → correction_answer (correct_by n s (whole_of a)).answer ≡ correct_answer_by n s corrected
      go zero = by (agrees s corrected)
      go (suc n) = refl

  pub correct-numbered : NumberedCorrection (correct_of s a).answer
  unfolding correct_of
  correct-numbered = go (correct_refusal s a)
    where
      by : (t : Bool) → NumberedCorrection (judged t s (whole_of a) corrected).answer
      by true = tt
      by false = tt

      go : (n : ℕ) → NumberedCorrection (correct_by n s (whole_of a)).answer
      go zero = by (agrees s corrected)
      go (suc n) = suc-ne-zero n
