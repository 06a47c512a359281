-- Two sessions that began alike and accepted the same samples stand at the same point.
use mathlib.Core.Path.{◌≡◌, refl, sym, ap, ◌∙◌}
use mathlib.Core.Bool.{true, not}
use mathlib.Core.List.{List, [], ◌∷◌}
use Prim.Native.Nat.{ℕ, zero, suc, ◌≤◌}
use native.Mathlib.Omega.{arith}
use lib.Dec.{leb}
use lib.ListN.{length, length-map}
use Rattle.rules.specs.Rules.{first_of}
use Rattle.ticks.specs.declared.WholeSample.{WholeSample}
use Rattle.session.specs.declared.Point.{Point}
use Rattle.session.specs.declared.Session.{Session}
use Rattle.session.specs.Numbers.{most_points}
use Rattle.session.specs.Moves.{present_point, predicted_point, point_in_range}
use Rattle.session.specs.Holding.{settled}
use Rattle.steps.specs.declared.ReportedPoint.{ReportedPoint}
use Rattle.steps.specs.Answers.{reported_point, Prediction}
use Rattle.steps.specs.Refusals.{full, predict_refusal}
use Rattle.steps.specs.Steps.{predict_by, predict_of}
use Rattle.demands.specs.Histories.{ours, Call, after, history, entries, samples_of}
use Rattle.demands.specs.ClosedForm.{Origin, Begins, Stands}
use Rattle.demands.specs.Demands.{SamePoint}
use Rattle.session.proofs.Coordinates.{point-by}
use Rattle.demands.proofs.Standing.{points-most, present-is, prediction-is}
use Rattle.demands.proofs.Invariant.{invariant}
use Rattle.std.specs.Prelude.{Ok, Err}

-- a prediction that is answered is the record's
clash : ◌≡◌ {A = ℕ} 0 1 → ⊥
clash h = omega arith

answered : (s : Session) (q : ReportedPoint) → (predict_of s).answer ≡ Ok q → q ≡ reported_point (predicted_point s)
unfolding predict_of
answered s q e = go (predict_refusal s) e
  where
    go : (n : ℕ) → (predict_by n s).answer ≡ Ok q → q ≡ reported_point (predicted_point s)
    go zero e = cc
    go (suc n) e = absurd (clash (cc))

-- where the number, and what it goes by, is the same, the answer is
abbrev answer_by : ℕ → Point → Prediction
answer_by zero q = Ok (reported_point q)
answer_by (suc n) q = Err (suc n)

answer-by : (n : ℕ) (s : Session) → (predict_by n s).answer ≡ answer_by n (predicted_point s)
answer-by zero s = refl
answer-by (suc n) s = refl

answers-alike : (s t : Session) → settled s ≡ settled t → s.accepted ≡ t.accepted → predicted_point s ≡ predicted_point t → (predict_of s).answer ≡ (predict_of t).answer
unfolding predict_of predict_refusal full
answers-alike s t f n q =
    answer-by (predict_refusal s) s
    ∙ (λ i. answer_by (first_of ((not (f i), 7) ∷ (leb most_points (n i), 9) ∷ (not (point_in_range (q i)), 6) ∷ [])) (q i))
    ∙ sym (answer-by (predict_refusal t) t)

module _ (o : Origin) (s t : Session) (b : Begins o s) (d : Begins o t) (calls others : List Call)
    (e : samples_of (entries (history ours s calls)) ≡ samples_of (entries (history ours t others))) where
  abbrev ws : List WholeSample
  ws = samples_of (entries (history ours s calls))

  small : o.points ≤ 9
  small = points-most o s b

  here : Stands o ws (after ours s calls)
  here = (invariant o s b calls).stands

  there : Stands o ws (after ours t others)
  there = rw e (invariant o t d others).stands

  present : present_point (after ours s calls) ≡ present_point (after ours t others)
  present = point-by _ _ (λ k. present-is o ws (after ours s calls) small here k ∙ sym (present-is o ws (after ours t others) small there k))

  predicted : predicted_point (after ours s calls) ≡ predicted_point (after ours t others)
  predicted = point-by _ _ (λ k. prediction-is o ws (after ours s calls) small here k ∙ sym (prediction-is o ws (after ours t others) small there k))

  pub same_point : SamePoint ours (after ours s calls) (after ours t others)
  same_point =
      record {
        present = present;
        next = λ q r f g. answered (after ours s calls) q f ∙ ap reported_point predicted ∙ sym (answered (after ours t others) r g);
      }

  as_many : length (entries (history ours s calls)) ≡ length (entries (history ours t others))
  as_many = sym (length-map (entries (history ours s calls)) (λ x. x.sample)) ∙ ap length e ∙ length-map (entries (history ours t others)) (λ x. x.sample)

  -- settled both, with as many points accepted: also where the prediction is refused
  pub same_next : s.accepted ≡ t.accepted → settled (after ours s calls) ≡ true → settled (after ours t others) ≡ true → (predict_of (after ours s calls)).answer ≡ (predict_of (after ours t others)).answer
  same_next m f g =
      answers-alike (after ours s calls) (after ours t others) (f ∙ sym g)
      (omega (arith, (invariant o s b calls).accepted, (invariant o t d others).accepted, as_many)) predicted
