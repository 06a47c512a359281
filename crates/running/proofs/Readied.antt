-- A session that was made ready awaits a correction, and a sample is taken from it as the run says.
use mathlib.Core.Path.{◌≡◌, refl, sym, ap, ◌∙◌}
use mathlib.Core.Bool.{Bool, true, false}
use Prim.Native.Nat.{ℕ, zero, suc}
use native.Mathlib.Nat.{suc-ne-zero}
use Rattle.std.specs.Prelude.{Ok, Err}
use Rattle.rules.specs.Rules.{NotZero}
use Rattle.ticks.specs.declared.Sample.{Sample}
use Rattle.session.specs.declared.Session.{Session}
use Rattle.session.specs.Holding.{holds, is_awaiting, awaiting}
use Rattle.steps.specs.Answers.{Prediction}
use Rattle.steps.specs.Refusals.{predict_refusal}
use Rattle.steps.specs.Steps.{predict_by, predict_of}
use Rattle.steps.proofs.Changes.{clash-of}
use Rattle.steps.proofs.Left.{predict-untouched}
use Rattle.running.specs.declared.RunAnswer.{RunAnswer}
use Rattle.running.specs.Runs.{come, correcting, predicted, taken_by, taken, AfterRun}
use Rattle.running.specs.Readied.{readied_to, readied_by, readied}
use Rattle.running.proofs.Kept.{predicted-awaits, waits}

-- a prediction that is refused leaves the session as it was
refused-stays : (s : Session) (n : ℕ) → (predict_of s).answer ≡ Err n → (predict_of s).session ≡ s
unfolding predict_of
refused-stays s n e = predict-untouched s (by (predict_refusal s) e)
  where
    by : (k : ℕ) → (predict_by k s).answer ≡ Err n → NotZero k
    by zero e = absurd (clash-of (cc))
    by (suc k) e = suc-ne-zero k

module _ (s : Session) (t : Session) where
  -- the session that was made ready
  pub ready-awaits : holds s ≡ true → Ok t ≡ readied s → awaiting t ≡ true
  unfolding readied
  ready-awaits h = by (is_awaiting s.state) refl
    where
      told : (p : Prediction) → (predict_of s).answer ≡ p → Ok t ≡ readied_to (predict_of s).session p → awaiting t ≡ true
      told (Ok q) e z = let same : t ≡ (predict_of s).session = cc in ap awaiting same ∙ predicted-awaits s q e
      told (Err n) e z = absurd (clash-of (cc))

      by : (k : Bool) → is_awaiting s.state ≡ k → Ok t ≡ readied_by k s → awaiting t ≡ true
      by true k z = let same : t ≡ s = cc in ap awaiting same ∙ waits s h k
      by false k z = told (predict_of s).answer refl z

module _ (run : AfterRun) (a : Sample) where
  abbrev r : RunAnswer
  r = run.answer

  abbrev s : Session
  s = run.session

  pub ready-corrects : (t : Session) → Ok t ≡ readied s → correcting r t a ≡ taken run a
  unfolding readied taken
  ready-corrects t = by (is_awaiting s.state)
    where
      told : (p : Prediction) → Ok t ≡ readied_to (predict_of s).session p → correcting r t a ≡ predicted r a (predict_of s).session p
      told (Ok q) z = let same : t ≡ (predict_of s).session = cc in ap (λ t. correcting r t a) same
      told (Err n) z = absurd (clash-of (cc))

      by : (k : Bool) → Ok t ≡ readied_by k s → correcting r t a ≡ taken_by k r s a
      by true z = let same : t ≡ s = cc in ap (λ t. correcting r t a) same
      by false z = told (predict_of s).answer z

  pub ready-ends : (n : ℕ) → Err n ≡ readied s → come s n r.points r.used ≡ taken run a
  unfolding readied taken
  ready-ends n = by (is_awaiting s.state)
    where
      told : (p : Prediction) → (predict_of s).answer ≡ p → Err n ≡ readied_to (predict_of s).session p → come s n r.points r.used ≡ predicted r a (predict_of s).session p
      told (Ok q) e z = absurd (clash-of (cc))
      told (Err m) e z = let same : n ≡ m = cc in (λ i. come (sym (refused-stays s m e) i) (same i) r.points r.used)

      by : (k : Bool) → Err n ≡ readied_by k s → come s n r.points r.used ≡ taken_by k r s a
      by true z = absurd (clash-of (cc))
      by false z = told (predict_of s).answer refl z
