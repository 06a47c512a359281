-- What stays true in a run: a session that holds is still one after each sample, settled or awaiting by its state, and the counts grow by one at most.
use mathlib.Core.Path.{◌≡◌, refl, sym, ap, ◌∙◌}
use mathlib.Core.Logic.{⊎_elim}
use mathlib.Core.Bool.{Bool, true, false, not, ◌||◌, false≢true}
use Prim.Native.Nat.{ℕ, zero, suc, ◌+◌, ◌≤◌, ◌<◌}
use native.Mathlib.Omega.{arith}
use borrow.Author.Tests.{eqb-true, leb-false}
use lib.Dec.{eqb, leb}
use Rattle.integers.specs.Tests.{joined, clash}
use Rattle.ticks.specs.declared.Sample.{Sample}
use Rattle.session.specs.declared.Session.{Session}
use Rattle.session.specs.declared.State.{State}
use Rattle.session.specs.declared.State.TheVariants.{Closed, Settled, Awaiting, Starting}
use Rattle.session.specs.Holding.{state_holds, holds, is_settled, is_awaiting, settled, awaiting}
use Rattle.session.proofs.Rules.{holding}
use Rattle.steps.specs.declared.ReportedPoint.{ReportedPoint}
use Rattle.steps.specs.declared.Correction.{Correction}
use Rattle.steps.specs.declared.Correction.TheVariants as C
use Rattle.steps.specs.Refusals.{predict_refusal}
use Rattle.steps.specs.Steps.{predict_by, predict_of, correct_of}
use Rattle.steps.proofs.Changes.{clash-of}
use Rattle.steps.proofs.Left.{predict-awaits, predict-leaves, correct-leaves}
use Rattle.running.specs.declared.RunAnswer.{RunAnswer}
use Rattle.running.specs.Runs.{corrected, correcting, predicted, predicting, taken_by, taken, over, AfterRun}
use Rattle.steps.specs.Answers.{Prediction}
use Rattle.std.specs.Prelude.{Ok, Err}

-- ---- single calls on a session that holds

module _ (s : Session) (h : holds s ≡ true) where
  pub predict-holds : holds (predict_of s).session ≡ true
  predict-holds = ⊎_elim (λ e. ap holds e ∙ h) (λ t. t) (predict-leaves s)

  pub correct-holds : (a : Sample) → holds (correct_of s a).session ≡ true
  correct-holds a = ⊎_elim (λ e. ap holds e ∙ h) (λ t. t) (correct-leaves s a)

  -- which of the two states it is in
  pub waits : is_awaiting s.state ≡ true → awaiting s ≡ true
  unfolding awaiting
  waits k = simp joined (k, h)

  pub rests : is_awaiting s.state ≡ false → settled s ≡ true
  unfolding settled
  rests k = simp joined (by s.state refl k, h)
    where
      open-state : (k : State) → s.state ≡ k → state_holds k s ≡ true
      open-state k e = ap (λ k. state_holds k s) (sym e) ∙ (holding s h).state

      by : (k : State) → s.state ≡ k → is_awaiting k ≡ false → is_settled k ≡ true
      by Closed e f = absurd (false≢true (open-state Closed e))
      by Settled e f = refl
      by Awaiting e f = absurd (false≢true (sym f))
      by Starting e f = absurd (false≢true (open-state Starting e))

unrefused : (s : Session) (q : ReportedPoint) → (predict_of s).answer ≡ Ok q → predict_refusal s ≡ 0
unfolding predict_of
unrefused s q e = go (predict_refusal s) e
  where
    go : (n : ℕ) → (predict_by n s).answer ≡ Ok q → n ≡ 0
    go zero e = refl
    go (suc n) e = absurd (clash-of (cc))

-- a prediction that is answered leaves a session that awaits a correction
pub predicted-awaits : (s : Session) (q : ReportedPoint) → (predict_of s).answer ≡ Ok q → awaiting (predict_of s).session ≡ true
predicted-awaits s q e = predict-awaits s (unrefused s q e)

-- ---- a sample

pub corrected-session : (r : RunAnswer) (s : Session) (c : Correction) → (corrected r s c).session ≡ s
corrected-session r s (C.Accepted q) = refl
corrected-session r s (C.Again q c) = refl
corrected-session r s (C.Refused n) = refl

module _ (r : RunAnswer) (a : Sample) where
  correcting-holds : (s : Session) → holds s ≡ true → holds (correcting r s a).session ≡ true
  correcting-holds s h = ap holds (corrected-session r (correct_of s a).session (correct_of s a).answer) ∙ correct-holds s h a

  predicting-holds : (s : Session) → holds s ≡ true → holds (predicting r s a).session ≡ true
  predicting-holds s h = go (predict_of s).session (predict-holds s h) (predict_of s).answer
    where
      go : (t : Session) → holds t ≡ true → (p : Prediction) → holds (predicted r a t p).session ≡ true
      go t h (Ok q) = correcting-holds t h
      go t h (Err n) = h

pub taken-holds : (run : AfterRun) (a : Sample) → holds run.session ≡ true → holds (taken run a).session ≡ true
unfolding taken
taken-holds run a h = by (is_awaiting run.session.state)
  where
    by : (t : Bool) → holds (taken_by t run.answer run.session a).session ≡ true
    by true = correcting-holds run.answer a run.session h
    by false = predicting-holds run.answer a run.session h

-- ---- the counts

pub corrected-used : (r : RunAnswer) (s : Session) (c : Correction) → (corrected r s c).answer.used ≡ r.used + 1
corrected-used r s (C.Accepted q) = refl
corrected-used r s (C.Again q c) = refl
corrected-used r s (C.Refused n) = refl

pub taken-used : (run : AfterRun) (a : Sample) → (taken run a).answer.used ≤ run.answer.used + 1
unfolding taken
taken-used run a = by (is_awaiting run.session.state)
  where
    after : (s : Session) → (correcting run.answer s a).answer.used ≤ run.answer.used + 1
    after s = omega (arith, corrected-used run.answer (correct_of s a).session (correct_of s a).answer)

    first : (s : Session) (p : Prediction) → (predicted run.answer a s p).answer.used ≤ run.answer.used + 1
    first s (Ok q) = after s
    first s (Err n) = omega arith

    by : (t : Bool) → (taken_by t run.answer run.session a).answer.used ≤ run.answer.used + 1
    by true = after run.session
    by false = first (predict_of run.session).session (predict_of run.session).answer

-- a run that is not over has fewer points than it wants, and no call of it was refused
module _ (wanted : ℕ) (r : RunAnswer) (e : over wanted r ≡ false) where
  pub not-refused : r.number ≡ 0
  unfolding over
  not-refused = eqb-true r.number 0 (by (eqb r.number 0) e)
    where
      by : (t : Bool) → (not t || leb wanted r.points) ≡ false → t ≡ true
      by true e = refl
      by false e = absurd (clash refl e)

  pub points-short : r.points < wanted
  unfolding over
  points-short = leb-false wanted r.points (by (eqb r.number 0) e)
    where
      by : (t : Bool) → (not t || leb wanted r.points) ≡ false → leb wanted r.points ≡ false
      by true e = e
      by false e = absurd (clash refl e)
