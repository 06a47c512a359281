-- The records that the calls leave have nine sample places on each axis where the record before had them.
use Prim.Native.Nat.{ℕ, zero, suc, ◌≤◌}
use mathlib.Core.Path.{◌≡◌, refl}
use mathlib.Core.Bool.{Bool, true, false, cond}
use mathlib.Core.List.{List, [], ◌∷◌}
use native.Mathlib.Omega.{arith}
use lib.Dec.{eqb}
use lib.ListN.{length}
use Rattle.ticks.specs.declared.Sample.{Sample}
use Rattle.ticks.specs.Samples.{whole_of}
use Rattle.axis.specs.Formulas.{places}
use Rattle.session.specs.declared.Session.{Session}
use Rattle.session.specs.Moves.{predicted_point, corrected_point, settled_again}
use Rattle.session.specs.Holding.{holds}
use Rattle.session.specs.Requests.{Request, exact_point}
use Rattle.session.proofs.Rules.{points-hold, holding, counts-are, awaiting-holds}
use Rattle.steps.specs.Opening.{axis_samples, opened_with}
use Rattle.steps.specs.Refusals.{open_refusal, predict_refusal, agrees, correct_refusal, withdraw_refusal}
use Rattle.steps.specs.Steps.{open_by, open_of, predict_by, predict_of, judged, correct_by, correct_of, withdraw_by, withdraw_of}
use Rattle.steps.proofs.Refusals.{opened-points, corrected-awaiting}
use Rattle.steps.proofs.Given.{length-samples}
use Rattle.demands.specs.Histories.{ours, step, after}
use Rattle.image.specs.Shapes.{Shaped}
use Rattle.image.proofs.Stands.{closed-shaped}
use Rattle.image.proofs.Left.{nine-places, settled-shaped, awaiting-shaped, accepted-shaped, opened-shaped}
use Rattle.hosted.specs.Runs.{Asks, predicts, corrects, withdraws, Asked, on_record, called}
use Rattle.host.specs.Calls.{is_answer}

-- ---- one call

module _ (s : Session) (h : Shaped s) where
  predict-shaped : Shaped (predict_of s).session
  unfolding predict_of
  predict-shaped = go (predict_refusal s)
    where
      go : (n : ℕ) → Shaped (predict_by n s).session
      go zero = awaiting-shaped s h 0 (predicted_point s)
      go (suc n) = h

  withdraw-shaped : Shaped (withdraw_of s).session
  unfolding withdraw_of
  withdraw-shaped = go (withdraw_refusal s)
    where
      go : (n : ℕ) → Shaped (withdraw_by n s).session
      go zero = settled-shaped s h
      go (suc n) = h

  few-points : holds s ≡ true → s.points ≤ 9
  few-points t = (counts-are s (holding s t).rules.counts).points.1

  correct-shaped : (a : Sample) → Shaped (correct_of s a).session
  unfolding correct_of
  correct-shaped a = go (correct_refusal s a) refl
    where
      judge : (t : Bool) → s.points ≤ 9 → Shaped (judged t s (whole_of a) (corrected_point s (whole_of a))).session
      judge true p = accepted-shaped s h (whole_of a) p
      judge false p = awaiting-shaped s h _ (corrected_point s (whole_of a))

      refused : (t : Bool) → Shaped (cond t (settled_again s) s)
      refused true = settled-shaped s h
      refused false = h

      go : (n : ℕ) → correct_refusal s a ≡ n → Shaped (correct_by n s (whole_of a)).session
      go zero e = judge (agrees s (corrected_point s (whole_of a))) (few-points (awaiting-holds s (corrected-awaiting s a e)))
      go (suc n) e = refused (eqb (suc n) 8)

  pub call-shaped : (call : Asks) → Shaped (step ours s (on_record call))
  call-shaped predicts = predict-shaped
  call-shaped (corrects a) = correct-shaped a
  call-shaped withdraws = withdraw-shaped

pub open-shaped : (r : Request) → Shaped (open_of r).session
unfolding open_of opened_with
open-shaped r = go (open_refusal r) refl
  where
    nine : (k : ℕ) → r.points ≤ 9 → length (places r.points (axis_samples r.points k r.floats)) ≡ 9
    nine k p = nine-places r.points (axis_samples r.points k r.floats) p (omega (arith, length-samples r.points k r.floats))

    go : (n : ℕ) → open_refusal r ≡ n → Shaped (open_by n r).session
    go zero e =
        let p = ((points-hold r.points).0 (opened-points r e)).1 in
        opened-shaped r.points r.tolerances r.limit (exact_point r.point) _ _ _ (nine 0 p) (nine 1 p) (nine 2 p)
    go (suc n) e = closed-shaped

-- ---- calls

pub calls-shaped : (s : Session) → Shaped s → (asked : List Asked) → Shaped (after ours s (called asked))
calls-shaped s h [] = h
calls-shaped s h (a ∷ asked) = by (is_answer a.answer) (calls-shaped s h asked)
  where
    by : (t : Bool) → Shaped (after ours s (called asked)) → Shaped (after ours s (cond t (on_record a.call ∷ called asked) (called asked)))
    by true k = call-shaped (after ours s (called asked)) k a.call
    by false k = k
