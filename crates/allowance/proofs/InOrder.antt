-- The samples that a run uses are the first of its slice, each once and in order.
use mathlib.Core.Path.{◌≡◌, refl, sym, ap, ◌∙◌}
use mathlib.Core.Logic.{◌⊎◌, inl, inr}
use mathlib.Core.Bool.{Bool, true, false}
use mathlib.Core.List.{List, [], ◌∷◌, ◌++◌, append-nil, append_assoc}
use Prim.Native.Nat.{ℕ, zero, suc, ◌+◌}
use native.Mathlib.Omega.{arith}
use lib.Ieee.{Float}
use lib.ListN.{take}
use Rattle.rules.specs.Rules.{NotZero}
use Rattle.ticks.specs.declared.Sample.{Sample}
use Rattle.session.specs.declared.Session.{Session}
use Rattle.session.specs.Holding.{is_awaiting}
use Rattle.steps.specs.Answers.{NumberedPrediction, Prediction}
use Rattle.steps.specs.Steps.{predict_of, correct_of}
use Rattle.steps.proofs.Answers.{predict-numbered}
use Rattle.running.specs.declared.RunAnswer.{RunAnswer}
use Rattle.running.specs.Samples.{samples_in}
use Rattle.running.specs.Runs.{come, predicted, taken_by, taken, over, on_by, on, run_refusal, run_by, run_of, AfterRun}
use Rattle.running.proofs.Kept.{corrected-used}
use Rattle.running.proofs.On.{on-over}
use Rattle.demands.specs.Histories.{Call, predict, correct, withdraw, refine}
use Rattle.allowance.specs.Calls.{calls_after, calls_by, calls_for, unless_over, calls_on, run_calls_by, run_calls, handed}
use Rattle.allowance.proofs.Endings.{is-over}
use Rattle.std.specs.Prelude.{Ok, Err}

-- ---- calls after calls

handed-both : (later calls : List Call) → handed (later ++ calls) ≡ handed calls ++ handed later
handed-both [] calls = sym (append-nil (handed calls))
handed-both (predict ∷ later) calls = handed-both later calls
handed-both (correct a ∷ later) calls = ap (λ xs. xs ++ a ∷ []) (handed-both later calls) ∙ append_assoc (handed calls) (handed later) (a ∷ [])
handed-both (withdraw ∷ later) calls = handed-both later calls
handed-both (refine floats ∷ later) calls = handed-both later calls

-- ---- one sample: it is read, or a prediction is refused

abbrev Reads : RunAnswer → Sample → AfterRun → List Call → Type 0
Reads r a next calls =
    ((handed calls ≡ a ∷ []) × (next.answer.used ≡ r.used + 1))
    ⊎ ((handed calls ≡ []) × ((next.answer.used ≡ r.used) × NotZero next.answer.number))

predicted-reads : (r : RunAnswer) (a : Sample) (s : Session) (p : Prediction) → NumberedPrediction p → Reads r a (predicted r a s p) (calls_after p a)
predicted-reads r a s (Ok q) f = inl (refl, corrected-used r (correct_of s a).session (correct_of s a).answer)
predicted-reads r a s (Err n) f = inr (refl, (refl, f))

taken-reads : (run : AfterRun) (a : Sample) → Reads run.answer a (taken run a) (calls_for run.session a)
unfolding taken
taken-reads run a = by (is_awaiting run.session.state)
  where
    by : (t : Bool) → Reads run.answer a (taken_by t run.answer run.session a) (calls_by t run.session a)
    by true = inl (refl, corrected-used run.answer (correct_of run.session a).session (correct_of run.session a).answer)
    by false = predicted-reads run.answer a (predict_of run.session).session (predict_of run.session).answer (predict-numbered run.session)

-- ---- the samples that are left: so many of them are read

calls-over : (wanted : ℕ) (run : AfterRun) (left : List Sample) → over wanted run.answer ≡ true → calls_on wanted run left ≡ []
calls-over wanted run [] e = refl
calls-over wanted run (a ∷ left) e = ap (λ t. unless_over t (calls_on wanted (taken run a) left ++ calls_for run.session a)) e

pub record Read (run next : AfterRun) (calls : List Call) (left : List Sample) : Type 0 where
  pub count : ℕ
  pub samples : handed calls ≡ take count left
  pub used : next.answer.used ≡ run.answer.used + count

none_read : (run : AfterRun) (left : List Sample) → Read run run [] left
none_read run left = record { count = 0; samples = refl; used = omega arith }

module _ (wanted : ℕ) (run : AfterRun) (a : Sample) (left : List Sample) where
  abbrev later : List Call
  later = calls_on wanted (taken run a) left

  one-read : Reads run.answer a (taken run a) (calls_for run.session a) → Read (taken run a) (on wanted (taken run a) left) later left →
      Read run (on wanted (taken run a) left) (later ++ calls_for run.session a) (a ∷ left)
  one-read (inl (e, u)) h =
      record {
        count = suc h.count;
        samples = handed-both later (calls_for run.session a) ∙ (λ i. e i ++ h.samples i);
        used = omega (arith, h.used, u);
      }
  one-read (inr (e, (u, f))) h =
      let o = is-over wanted (taken run a).answer f in
      record {
        count = 0;
        samples = handed-both later (calls_for run.session a) ∙ (λ i. e i ++ handed (calls-over wanted (taken run a) left o i));
        used = ap (λ r. r.answer.used) (on-over wanted (taken run a) o left) ∙ omega (arith, u);
      }

on-reads : (wanted : ℕ) (run : AfterRun) (left : List Sample) → Read run (on wanted run left) (calls_on wanted run left) left
unfolding on
on-reads wanted run [] = none_read run []
on-reads wanted run (a ∷ left) = by (over wanted run.answer) (one-read wanted run a left (taken-reads run a) (on-reads wanted (taken run a) left))
  where
    by : (t : Bool) → Read run (on wanted (taken run a) left) (calls_on wanted (taken run a) left ++ calls_for run.session a) (a ∷ left) →
        Read run (on_by t run (on wanted (taken run a) left)) (unless_over t (calls_on wanted (taken run a) left ++ calls_for run.session a)) (a ∷ left)
    by true h = none_read run (a ∷ left)
    by false h = h

pub run-reads : (s : Session) (floats : List Float) (wanted : ℕ) → handed (run_calls s floats wanted) ≡ take (run_of s floats wanted).answer.used (samples_in floats)
unfolding run_of
run-reads s floats wanted = go (run_refusal s floats)
  where
    go : (n : ℕ) → handed (run_calls_by n s floats wanted) ≡ take (run_by n s floats wanted).answer.used (samples_in floats)
    go zero =
        let h = on-reads wanted (come s 0 0 0) (samples_in floats) in
        let u : h.count ≡ (run_by 0 s floats wanted).answer.used = omega (arith, h.used) in
        h.samples ∙ ap (λ n. take n (samples_in floats)) u
    go (suc n) = refl
