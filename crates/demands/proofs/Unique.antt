-- Demands 1 and 2 leave no choice: they settle the answer and the record of every call on every input.
use mathlib.Core.Path.{◌≡◌, refl, sym, ap, ◌∙◌}
use mathlib.Core.Bool.{Bool, true, false, cond}
use mathlib.Core.List.{List}
use Prim.Native.Nat.{ℕ, zero, suc}
use native.Mathlib.Omega.{arith}
use native.Mathlib.Nat.{suc-ne-zero}
use lib.Dec.{eqb}
use lib.Ieee.{Float}
use borrow.Author.Tests.{eqb-true, eqb-false}
use Rattle.ticks.specs.declared.Sample.{Sample}
use Rattle.ticks.specs.Samples.{whole_of}
use Rattle.session.specs.declared.Session.{Session}
use Rattle.session.specs.Moves.{corrected_point, settled_again, closed_session}
use Rattle.epoch_session.specs.Rounds.{rounds_agree}
use Rattle.epoch_session.specs.Records.{held_round}
use Rattle.steps.specs.declared.ReportedPoint.{ReportedPoint}
use Rattle.steps.specs.declared.Correction.{Correction}
use Rattle.steps.specs.declared.Correction.TheVariants as C
use Rattle.rules.specs.Rules.{NotZero, Unrefused}
use Rattle.steps.specs.Answers.{opening_answer, prediction_answer, correction_answer, withdrawal_answer, Opening, Prediction, Withdrawal}
use Rattle.steps.specs.Refusals.{predict_refusal, agrees, correct_refusal, withdraw_refusal, open_refusal}
use Rattle.epoch_steps.specs.declared.Outcome.{Outcome}
use Rattle.epoch_steps.specs.declared.RoundAnswer.{RoundAnswer}
use Rattle.epoch_steps.specs.declared.Outcome.TheVariants as R
use Rattle.epoch_steps.specs.Answers.{no_points, outcome_values, round_answer}
use Rattle.epoch_steps.specs.Refusals.{later_round, refine_refusal, start_refusal}
use Rattle.epoch_steps.specs.Steps.{refused}
use Rattle.session.specs.Requests.{Request}
use Rattle.demands.specs.Histories.{Implementation}
use Rattle.demands.specs.Refusals.{open_table, predict_table, correct_table, withdraw_table, start_table, refine_table}
use Rattle.demands.specs.Demands.{open_number, predict_number, correct_number, withdraw_number, start_number, refine_number, Demand1, Demand2, Agree}
use Rattle.demands.proofs.Conditions.{agreement, rounds-apart}
use Rattle.demands.proofs.Tables.{open-first, predict-first, correct-first, withdraw-first, start_first, refine-first}
use Rattle.demands.proofs.Ours.{open_none, predict-none, correct-none, withdraw-none, start_none, refine-none}
use Rattle.rules.proofs.Readings.{one-first, one-exactly}
use Rattle.demands.specs.Theorems.{Replaces}
use Rattle.std.specs.Prelude.{Ok, Err}

-- ---- a refusal's number is its answer

opening-refused : (a : Opening) (n : ℕ) → (opening_answer a).number ≡ suc n → a ≡ Err (suc n)
opening-refused (Ok _) n e = absurd (omega arith)
opening-refused (Err m) n e = ap Err e

prediction-refused : (a : Prediction) (n : ℕ) → (prediction_answer a).number ≡ suc n → a ≡ Err (suc n)
prediction-refused (Ok q) n e = absurd (omega arith)
prediction-refused (Err m) n e = ap Err e

correction-refused : (a : Correction) (n : ℕ) → (correction_answer a).number ≡ suc n → a ≡ C.Refused (suc n)
correction-refused (C.Accepted q) n e = absurd (omega arith)
correction-refused (C.Again q c) n e = absurd (omega arith)
correction-refused (C.Refused m) n e = ap C.Refused e

withdrawal-refused : (a : Withdrawal) (n : ℕ) → (withdrawal_answer a).number ≡ suc n → a ≡ Err (suc n)
withdrawal-refused (Ok _) n e = absurd (omega arith)
withdrawal-refused (Err m) n e = ap Err e

-- a refused round's answer is its number, and has no points
outcome-refused : (a : Outcome) (ps : List ReportedPoint) (n : ℕ) → (outcome_values a ps).number ≡ suc n → a ≡ R.Refused (suc n)
outcome-refused (R.More c) ps n e = absurd (omega arith)
outcome-refused R.Opened ps n e = absurd (omega arith)
outcome-refused (R.Refused m) ps n e = ap R.Refused e

round-refused : (a : RoundAnswer) (n : ℕ) → (round_answer a).number ≡ suc n → a.track ≡ no_points → a ≡ refused (suc n)
round-refused a n e b = λ i. record { outcome = outcome-refused a.outcome a.track n e i; track = b i }

-- a number that is given
given : {m n : ℕ} → m ≡ suc n → NotZero m
given e z = suc-ne-zero _ (sym e ∙ z)

-- ---- the number is the table's, and where it is 0 no rule applies

module _ (I : Implementation) (d : Demand1 I) where
  opening-number : (s : Session) (r : Request) → open_number I s r ≡ open_refusal r
  opening-number s r = one-exactly (open_table r) (open_number I s r) (open_refusal r) (open-first r) (d.opens s r)

  prediction-number : (s : Session) → predict_number I s ≡ predict_refusal s
  prediction-number s = one-exactly (predict_table s) (predict_number I s) (predict_refusal s) (predict-first s) (d.predicts s)

  correction-number : (s : Session) (a : Sample) → correct_number I s a ≡ correct_refusal s a
  correction-number s a = one-exactly (correct_table s a) (correct_number I s a) (correct_refusal s a) (correct-first s a) (d.corrects s a)

  withdrawal-number : (s : Session) → withdraw_number I s ≡ withdraw_refusal s
  withdrawal-number s = one-exactly (withdraw_table s) (withdraw_number I s) (withdraw_refusal s) (withdraw-first s) (d.withdraws s)

  first-round-number : (s : Session) (r : Request) → start_number I s r ≡ start_refusal r
  first-round-number s r = one-first (start_table r) (start_number I s r) (start_refusal r) (start_first r) (d.starts s r)

  later-round-number : (s : Session) (floats : List Float) → refine_number I s floats ≡ refine_refusal s floats
  later-round-number s floats = one-exactly (refine_table s floats) (refine_number I s floats) (refine_refusal s floats) (refine-first s floats) (d.refines s floats)

  -- what a refusal of the table's number n + 1 leaves and answers
  refused-opening : (s : Session) (r : Request) (n : ℕ) → open_refusal r ≡ suc n → I.opens s r ≡ record { session = closed_session; answer = Err (suc n) }
  refused-opening s r n h =
      let m = opening-number s r ∙ h in
      λ i. record { session = d.closed s r (given m) i; answer = opening-refused (I.opens s r).answer n m i }

  refused-prediction : (s : Session) (n : ℕ) → predict_refusal s ≡ suc n → I.predicts s ≡ record { session = s; answer = Err (suc n) }
  refused-prediction s n h =
      let m = prediction-number s ∙ h in
      λ i. record { session = d.unpredicted s (given m) i; answer = prediction-refused (I.predicts s).answer n m i }

  refused-withdrawal : (s : Session) (n : ℕ) → withdraw_refusal s ≡ suc n → I.withdraws s ≡ record { session = s; answer = Err (suc n) }
  refused-withdrawal s n h =
      let m = withdrawal-number s ∙ h in
      λ i. record { session = d.unwithdrawn s (given m) i; answer = withdrawal-refused (I.withdraws s).answer n m i }

  refused-correction : (s : Session) (a : Sample) (n : ℕ) → correct_refusal s a ≡ suc n → I.corrects s a ≡ record { session = cond (eqb (suc n) 8) (settled_again s) s; answer = C.Refused (suc n) }
  refused-correction s a n h = λ i. record { session = left (eqb (suc n) 8) refl i; answer = correction-refused (I.corrects s a).answer n m i }
    where
      m : correct_number I s a ≡ suc n
      m = correction-number s a ∙ h

      left : (t : Bool) → eqb (suc n) 8 ≡ t → (I.corrects s a).session ≡ cond t (settled_again s) s
      left true e = d.settled s a (m ∙ eqb-true (suc n) 8 e)
      left false e = d.uncorrected s a (given m) (λ f. eqb-false (suc n) 8 e (sym m ∙ f))

  refused-first-round : (s : Session) (r : Request) (n : ℕ) → start_refusal r ≡ suc n → I.starts s r ≡ record { session = closed_session; answer = refused (suc n) }
  refused-first-round s r n h =
      let m = first-round-number s r ∙ h in
      λ i. record { session = d.unstarted s r (given m) i; answer = round-refused (I.starts s r).answer n m (d.blank_start s r (given m)) i }

  refused-later-round : (s : Session) (floats : List Float) (n : ℕ) → refine_refusal s floats ≡ suc n → I.refines s floats ≡ record { session = cond (eqb (suc n) 8) closed_session s; answer = refused (suc n) }
  refused-later-round s floats n h = λ i. record { session = left (eqb (suc n) 8) refl i; answer = round-refused (I.refines s floats).answer n m (d.blank_round s floats (given m)) i }
    where
      m : refine_number I s floats ≡ suc n
      m = later-round-number s floats ∙ h

      left : (t : Bool) → eqb (suc n) 8 ≡ t → (I.refines s floats).session ≡ cond t closed_session s
      left true e = d.ended s floats (m ∙ eqb-true (suc n) 8 e)
      left false e = d.unrefined s floats (given m) (λ f. eqb-false (suc n) 8 e (sym m ∙ f))

-- ---- two implementations

module _ (I J : Implementation) (d : Demand1 I) (e : Demand2 I) (f : Demand1 J) (g : Demand2 J) where
  same-opening : (s t : Session) (r : Request) (n : ℕ) → open_refusal r ≡ n → I.opens s r ≡ J.opens t r
  same-opening s t r zero h = let u = (open_none r).0 h in e.opens s r u ∙ sym (g.opens t r u)
  same-opening s t r (suc n) h = refused-opening I d s r n h ∙ sym (refused-opening J f t r n h)

  same-prediction : (s : Session) (n : ℕ) → predict_refusal s ≡ n → I.predicts s ≡ J.predicts s
  same-prediction s zero h = let u = (predict-none s).0 h in e.predicts s u ∙ sym (g.predicts s u)
  same-prediction s (suc n) h = refused-prediction I d s n h ∙ sym (refused-prediction J f s n h)

  same-judgement : (s : Session) (a : Sample) → Unrefused (correct_table s a) → (t : Bool) → agrees s (corrected_point s (whole_of a)) ≡ t → I.corrects s a ≡ J.corrects s a
  same-judgement s a u true h = let w = (agreement s (corrected_point s (whole_of a))).yes.0 h in e.accepts s a u w ∙ sym (g.accepts s a u w)
  same-judgement s a u false h = let w = (agreement s (corrected_point s (whole_of a))).no.0 h in e.repeats s a u w ∙ sym (g.repeats s a u w)

  same-correction : (s : Session) (a : Sample) (n : ℕ) → correct_refusal s a ≡ n → I.corrects s a ≡ J.corrects s a
  same-correction s a zero h = same-judgement s a ((correct-none s a).0 h) (agrees s (corrected_point s (whole_of a))) refl
  same-correction s a (suc n) h = refused-correction I d s a n h ∙ sym (refused-correction J f s a n h)

  same-withdrawal : (s : Session) (n : ℕ) → withdraw_refusal s ≡ n → I.withdraws s ≡ J.withdraws s
  same-withdrawal s zero h = let u = (withdraw-none s).0 h in e.withdraws s u ∙ sym (g.withdraws s u)
  same-withdrawal s (suc n) h = refused-withdrawal I d s n h ∙ sym (refused-withdrawal J f s n h)

  same-first-round : (s t : Session) (r : Request) (n : ℕ) → start_refusal r ≡ n → I.starts s r ≡ J.starts t r
  same-first-round s t r zero h = let u = (start_none r).0 h in e.starts s r u ∙ sym (g.starts t r u)
  same-first-round s t r (suc n) h = refused-first-round I d s r n h ∙ sym (refused-first-round J f t r n h)

  same-round-judgement : (s : Session) (floats : List Float) → Unrefused (refine_table s floats) → (t : Bool) → rounds_agree s.tolerances (later_round s floats) (held_round s) ≡ t → I.refines s floats ≡ J.refines s floats
  same-round-judgement s floats u true h = let w = (rounds-apart s (later_round s floats)).yes.0 h in e.opens_round s floats u w ∙ sym (g.opens_round s floats u w)
  same-round-judgement s floats u false h = let w = (rounds-apart s (later_round s floats)).no.0 h in e.asks_more s floats u w ∙ sym (g.asks_more s floats u w)

  same-later-round : (s : Session) (floats : List Float) (n : ℕ) → refine_refusal s floats ≡ n → I.refines s floats ≡ J.refines s floats
  same-later-round s floats zero h = same-round-judgement s floats ((refine-none s floats).0 h) (rounds_agree s.tolerances (later_round s floats) (held_round s)) refl
  same-later-round s floats (suc n) h = refused-later-round I d s floats n h ∙ sym (refused-later-round J f s floats n h)

  pub unique : Agree I J
  unique =
      record {
        opens = λ s r. same-opening s s r (open_refusal r) refl;
        predicts = λ s. same-prediction s (predict_refusal s) refl;
        corrects = λ s a. same-correction s a (correct_refusal s a) refl;
        withdraws = λ s. same-withdrawal s (withdraw_refusal s) refl;
        starts = λ s r. same-first-round s s r (start_refusal r) refl;
        refines = λ s floats. same-later-round s floats (refine_refusal s floats) refl;
      }

-- so an open and a first round do not hang on the record that they replace
pub replacing : (I : Implementation) → Demand1 I → Demand2 I → Replaces I
replacing I d e =
    record {
      opens = λ s t r. same-opening I I d e d e s t r (open_refusal r) refl;
      starts = λ s t r. same-first-round I I d e d e s t r (start_refusal r) refl;
    }
