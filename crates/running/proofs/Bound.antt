-- The samples that a run uses are within its allowance: each point takes at most as many corrections as the limit allows, and so does the one that is not settled.
use mathlib.Core.Path.{◌≡◌, refl}
use mathlib.Core.Bool.{Bool, true, false, cond}
use mathlib.Core.List.{List, [], ◌∷◌}
use Prim.Native.Nat.{ℕ, zero, suc, ◌+◌, ◌*◌, ◌≤◌, ◌<◌}
use native.Mathlib.Nat.{suc-ne-zero}
use native.Mathlib.Omega.{arith}
use borrow.Author.Tests.{not-false}
use lib.Dec.{eqb}
use lib.Ieee.{Float}
use Rattle.rules.specs.Rules.{NotZero}
use Rattle.ticks.specs.declared.Sample.{Sample}
use Rattle.ticks.specs.Samples.{whole_of}
use Rattle.session.specs.declared.Session.{Session}
use Rattle.session.specs.Moves.{predicted_point, corrected_point, settled_again, awaiting_at, accepted_at}
use Rattle.session.specs.Holding.{holds, is_awaiting, settled}
use Rattle.session.proofs.Rules.{holding, counts-are, settled-holds, resting, expecting}
use Rattle.steps.specs.Refusals.{predict_refusal, agrees, correct_refusal}
use Rattle.steps.specs.Steps.{predict_by, predict_of, judged, correct_by, correct_of}
use Rattle.rules.proofs.Tests.{clear}
use Rattle.running.specs.declared.RunAnswer.{RunAnswer}
use Rattle.running.specs.Samples.{samples_in}
use Rattle.running.specs.Runs.{come, corrected, correcting, predicted, predicting, taken_by, taken, over, on_by, on, run_rules, run_refusal, run_by, run_of, AfterRun}
use Rattle.running.specs.Bound.{WithinAllowance}
use Rattle.running.proofs.Kept.{waits, rests, taken-holds, not-refused}

-- a run on the way, with the limit l: while no call was refused, each point settled took at most l samples, and the next one a sample for each correction
pub record Allowed (l : ℕ) (run : AfterRun) : Type 0 where
  pub limit : run.session.limit ≡ l
  pub whole : WithinAllowance l run.answer
  pub going : run.answer.number ≡ 0 → run.answer.used ≤ l * run.answer.points + run.session.corrections

module _ (l : ℕ) (r : RunAnswer) where
  -- ---- a sample for a session that awaits a correction

  module _ (s : Session) (e : s.limit ≡ l) (m : r.used ≤ l * r.points + s.corrections) (c : s.corrections < l) where
    ended : (t : Bool) (n : ℕ) → NotZero n → Allowed l (come (cond t (settled_again s) s) n r.points (r.used + 1))
    unfolding settled_again
    ended true n f = record { limit = e; whole = omega arith; going = λ z. absurd (f z) }
    ended false n f = record { limit = e; whole = omega arith; going = λ z. absurd (f z) }

    judged-within : (a : Sample) (t : Bool) →
        let j = judged t s (whole_of a) (corrected_point s (whole_of a)) in
        Allowed l (corrected r j.session j.answer)
    unfolding accepted_at awaiting_at
    judged-within a true = record { limit = e; whole = omega arith; going = λ z. omega arith }
    judged-within a false = record { limit = e; whole = omega arith; going = λ z. omega arith }

    pub correcting-within : (a : Sample) → Allowed l (correcting r s a)
    unfolding correct_of
    correcting-within a = go (correct_refusal s a)
      where
        go : (n : ℕ) → Allowed l (corrected r (correct_by n s (whole_of a)).session (correct_by n s (whole_of a)).answer)
        go zero = judged-within a (agrees s (corrected_point s (whole_of a)))
        go (suc n) = ended (eqb (suc n) 8) (suc n) (suc-ne-zero n)

  -- ---- a sample for a settled one

  pub predicting-within : (s : Session) → settled s ≡ true → s.limit ≡ l → r.used ≤ l * r.points → (a : Sample) → Allowed l (predicting r s a)
  unfolding predict_of awaiting_at
  predicting-within s t e m a = go (predict_refusal s)
    where
      some : 1 ≤ s.limit
      some = (counts-are s (holding s (settled-holds s t)).rules.counts).limit.0

      go : (n : ℕ) → Allowed l (predicted r a (predict_by n s).session (predict_by n s).answer)
      go zero = correcting-within (awaiting_at s 0 (predicted_point s)) e (omega arith) (omega (arith, some)) a
      go (suc n) = record { limit = e; whole = omega arith; going = λ z. absurd (suc-ne-zero n z) }

-- ---- a sample, and the samples that are left

module _ (l wanted : ℕ) where
  taken-within : (run : AfterRun) (a : Sample) → holds run.session ≡ true → over wanted run.answer ≡ false → Allowed l run → Allowed l (taken run a)
  unfolding taken
  taken-within run a h o w = by (is_awaiting run.session.state) refl
    where
      on-the-way : run.answer.used ≤ l * run.answer.points + run.session.corrections
      on-the-way = w.going (not-refused wanted run.answer o)

      by : (t : Bool) → is_awaiting run.session.state ≡ t → Allowed l (taken_by t run.answer run.session a)
      by true k =
          let c = (expecting run.session (waits run.session h k)).corrections in
          correcting-within l run.answer run.session w.limit on-the-way (omega (arith, c, w.limit)) a
      by false k =
          let t = rests run.session h k in
          let z = (resting run.session t).corrections in
          predicting-within l run.answer run.session t w.limit (omega (arith, z, on-the-way)) a

  pub on-within : (run : AfterRun) (left : List Sample) → holds run.session ≡ true → Allowed l run → Allowed l (on wanted run left)
  unfolding on
  on-within run [] h w = w
  on-within run (a ∷ left) h w =
      by (over wanted run.answer) refl (λ e. on-within (taken run a) left (taken-holds run a h) (taken-within run a h e w))
    where
      by : (t : Bool) → over wanted run.answer ≡ t → (over wanted run.answer ≡ false → Allowed l (on wanted (taken run a) left)) →
          Allowed l (on_by t run (on wanted (taken run a) left))
      by true e next = w
      by false e next = next e

-- ---- the run

module _ (s : Session) (floats : List Float) (wanted : ℕ) where
  -- one that nothing refuses begins with a settled session
  pub began-settled : run_refusal s floats ≡ 0 → settled s ≡ true
  unfolding run_refusal
  began-settled e = not-false (settled s) (clear 7 (run_rules s floats) refl e).0

  pub within-allowance : WithinAllowance s.limit (run_of s floats wanted).answer
  unfolding run_of
  within-allowance = go (run_refusal s floats) refl
    where
      go : (n : ℕ) → run_refusal s floats ≡ n → WithinAllowance s.limit (run_by n s floats wanted).answer
      go zero e =
          (on-within s.limit wanted (come s 0 0 0) (samples_in floats) (settled-holds s (began-settled e))
          (record { limit = refl; whole = omega arith; going = λ z. omega arith })).whole
      go (suc n) e = omega arith
