-- A run is its single calls: it leaves the session that they leave, and answers what they tell; so turns are histories of single calls.
use mathlib.Core.Path.{◌≡◌, refl, sym, ap, subst, ◌∙◌}
use mathlib.Core.Bool.{Bool, true, false}
use mathlib.Core.List.{List, [], ◌∷◌, ◌++◌}
use Prim.Native.Nat.{ℕ, zero, suc, ◌+◌}
use native.Mathlib.Numerals.{add-one}
use lib.Ieee.{Float}
use lib.ListN.{length}
use Rattle.ticks.specs.declared.Sample.{Sample}
use Rattle.session.specs.declared.Session.{Session}
use Rattle.session.specs.Holding.{is_awaiting}
use Rattle.steps.specs.declared.Correction.{Correction}
use Rattle.steps.specs.declared.Correction.TheVariants as C
use Rattle.steps.specs.Answers.{prediction_answer, Prediction}
use Rattle.steps.specs.Steps.{predict_of, correct_of}
use Rattle.running.specs.declared.RunAnswer.{RunAnswer}
use Rattle.running.specs.Samples.{samples_in}
use Rattle.running.specs.Runs as Runs
use Rattle.running.specs.Runs.{come, corrected, predicted, taken_by, taken, over, on_by, on, run_refusal, run_by, run_of, AfterRun}
use Rattle.running.proofs.Kept.{corrected-session}
use Rattle.demands.specs.Histories.{Call, correct, Event, predicting, correcting, withdrawing, refining, ours, step, event, after, history, entries, samples_of}
use Rattle.demands.specs.Records.{OpenRecord}
use Rattle.demands.specs.ClosedForm.{Origin, Begins}
use Rattle.promised.specs.Theorems.{Keeping, Counting, Together}
use Rattle.promised.proofs.Theorems as Promised
use Rattle.allowance.specs.Calls.{calls_after, calls_by, calls_for, unless_over, calls_on, run_calls_by, run_calls, number_of, samples_read, told, Turn, single, running, left_by, calls_in}
use Rattle.std.specs.Prelude.{Ok, Err}

-- ---- calls after calls

pub after_both : (s : Session) (later calls : List Call) → after ours s (later ++ calls) ≡ after ours (after ours s calls) later
after_both s [] calls = refl
after_both s (call ∷ later) calls = ap (λ t. step ours t call) (after_both s later calls)

-- ---- what an event adds to an answer

abbrev adds : RunAnswer → Event → RunAnswer
adds r (predicting p) = record { number = number_of (predicting p); points = r.points; used = r.used }
adds r (correcting a (C.Accepted q)) = record { number = 0; points = r.points + 1; used = r.used + 1 }
adds r (correcting a (C.Again q c)) = record { number = 0; points = r.points; used = r.used + 1 }
adds r (correcting a (C.Refused n)) = record { number = n; points = r.points; used = r.used + 1 }
adds r (withdrawing w) = record { number = number_of (withdrawing w); points = r.points; used = r.used }
adds r (refining floats w) = record { number = number_of (refining floats w); points = r.points; used = r.used }

abbrev added : RunAnswer → List Event → RunAnswer
added r [] = r
added r (e ∷ es) = adds (added r es) e

-- calls on a session, and what their answers make of an answer so far
abbrev calling : RunAnswer → Session → List Call → RunAnswer
calling r s calls = added r (history ours s calls)

calling-both : (r : RunAnswer) (s : Session) (later calls : List Call) → calling r s (later ++ calls) ≡ calling (calling r s calls) (after ours s calls) later
calling-both r s [] calls = refl
calling-both r s (call ∷ later) calls = λ i. adds (calling-both r s later calls i) (event ours (after_both s later calls i) call)

-- from nothing, what they tell
one_more : (e : Event) (es : List Event) → adds (told es) e ≡ told (e ∷ es)
one_more (predicting r) es = refl
one_more (correcting a (C.Accepted q)) es =
    λ i. record { number = 0; points = add-one (length (entries es)) i; used = add-one (samples_read es) i }
one_more (correcting a (C.Again q c)) es = λ i. record { number = 0; points = length (entries es); used = add-one (samples_read es) i }
one_more (correcting a (C.Refused n)) es = λ i. record { number = n; points = length (entries es); used = add-one (samples_read es) i }
one_more (withdrawing r) es = refl
one_more (refining floats r) es = refl

tells : (es : List Event) → added (record { number = 0; points = 0; used = 0 }) es ≡ told es
tells [] = refl
tells (e ∷ es) = ap (λ r. adds r e) (tells es) ∙ one_more e es

-- ---- one sample

-- calls make a run of an answer so far: the session left, and the answer
abbrev Made : AfterRun → RunAnswer → Session → List Call → Type 0
Made run r s calls = (run.session ≡ after ours s calls) × (run.answer ≡ calling r s calls)

module _ (r : RunAnswer) (a : Sample) (s : Session) where
  corrected-answer : (c : Correction) → (corrected r s c).answer ≡ adds r (correcting a c)
  corrected-answer (C.Accepted q) = refl
  corrected-answer (C.Again q c) = refl
  corrected-answer (C.Refused n) = refl

  -- also after a prediction
  predicted-answer : (p : Prediction) (c : Correction) → (corrected r s c).answer ≡ adds (adds r (predicting p)) (correcting a c)
  predicted-answer p (C.Accepted q) = refl
  predicted-answer p (C.Again q c) = refl
  predicted-answer p (C.Refused n) = refl

module _ (r : RunAnswer) (s : Session) (a : Sample) where
  correct-made : Made (Runs.correcting r s a) r s (correct a ∷ [])
  correct-made = (
    corrected-session r (correct_of s a).session (correct_of s a).answer,
    corrected-answer r a (correct_of s a).session (correct_of s a).answer,
  )

  predict-made : (p : Prediction) → (predict_of s).answer ≡ p → Made (predicted r a (predict_of s).session p) r s (calls_after p a)
  predict-made (Ok q) e =
      let t = (predict_of s).session in (
        corrected-session r (correct_of t a).session (correct_of t a).answer,
        predicted-answer r a (correct_of t a).session (predict_of s).answer (correct_of t a).answer,
      )
  predict-made (Err n) e = (refl, λ i. record { number = (prediction_answer (sym e i)).number; points = r.points; used = r.used })

taken_made : (run : AfterRun) (a : Sample) → Made (taken run a) run.answer run.session (calls_for run.session a)
unfolding taken
taken_made run a = by (is_awaiting run.session.state)
  where
    by : (t : Bool) → Made (taken_by t run.answer run.session a) run.answer run.session (calls_by t run.session a)
    by true = correct-made run.answer run.session a
    by false = predict-made run.answer run.session a (predict_of run.session).answer refl

-- ---- the samples that are left, and the run

on-made : (wanted : ℕ) (run : AfterRun) (left : List Sample) → Made (on wanted run left) run.answer run.session (calls_on wanted run left)
unfolding on
on-made wanted run [] = (refl, refl)
on-made wanted run (a ∷ left) = by (over wanted run.answer) (taken_made run a) (on-made wanted (taken run a) left)
  where
    later : List Call
    later = calls_on wanted (taken run a) left

    first : List Call
    first = calls_for run.session a

    by : (t : Bool) → Made (taken run a) run.answer run.session first →
        Made (on wanted (taken run a) left) (taken run a).answer (taken run a).session later →
        Made (on_by t run (on wanted (taken run a) left)) run.answer run.session (unless_over t (later ++ first))
    by true m h = (refl, refl)
    by false m h = (
      h.0 ∙ ap (λ t. after ours t later) m.0 ∙ sym (after_both run.session later first),
      h.1 ∙ (λ i. calling (m.1 i) (m.0 i) later) ∙ sym (calling-both run.answer run.session later first),
    )

module _ (s : Session) (floats : List Float) (wanted : ℕ) where
  pub run-left : (run_of s floats wanted).session ≡ after ours s (run_calls s floats wanted)
  unfolding run_of
  run-left = go (run_refusal s floats)
    where
      go : (n : ℕ) → (run_by n s floats wanted).session ≡ after ours s (run_calls_by n s floats wanted)
      go zero = (on-made wanted (come s 0 0 0) (samples_in floats)).0
      go (suc n) = refl

  pub run-answer : run_refusal s floats ≡ 0 → (run_of s floats wanted).answer ≡ told (history ours s (run_calls s floats wanted))
  unfolding run_of
  run-answer e =
      ap (λ n. (run_by n s floats wanted).answer) e
      ∙ (on-made wanted (come s 0 0 0) (samples_in floats)).1
      ∙ tells (history ours s (run_calls_by 0 s floats wanted))
      ∙ ap (λ n. told (history ours s (run_calls_by n s floats wanted))) (sym e)

-- ---- turns

pub turns-left : (s : Session) (turns : List Turn) → left_by s turns ≡ after ours s (calls_in s turns)
turns-left s [] = refl
turns-left s (single call ∷ turns) = ap (λ t. step ours t call) (turns-left s turns)
turns-left s (running floats wanted ∷ turns) =
    let calls = run_calls (left_by s turns) floats wanted in
    run-left (left_by s turns) floats wanted
    ∙ ap (λ t. after ours t calls) (turns-left s turns)
    ∙ sym (after_both s calls (calls_in s turns))

pub turns-keep : (o : Origin) (s : Session) → Begins o s → (turns : List Turn) → Keeping o (left_by s turns) (history ours s (calls_in s turns))
turns-keep o s b turns =
    subst (λ t. Keeping o t (history ours s (calls_in s turns))) (sym (turns-left s turns)) (Promised.keeps o s (calls_in s turns) b)

pub turns-count : (s : Session) → OpenRecord s → (turns : List Turn) → Counting s (left_by s turns) (history ours s (calls_in s turns))
turns-count s h turns =
    subst (λ t. Counting s t (history ours s (calls_in s turns))) (sym (turns-left s turns)) (Promised.counts s (calls_in s turns) h)

pub turns-alike : (o : Origin) (s t : Session) → Begins o s → Begins o t → (turns others : List Turn) →
    samples_of (entries (history ours s (calls_in s turns))) ≡ samples_of (entries (history ours t (calls_in t others))) →
    Together (left_by s turns) (left_by t others)
turns-alike o s t b d turns others e =
    subst (λ u. Together u (left_by t others)) (sym (turns-left s turns))
    (subst (Together (after ours s (calls_in s turns))) (sym (turns-left t others))
    (Promised.together o s t (calls_in s turns) (calls_in t others) b d e))
