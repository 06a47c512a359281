-- How a run ends: sample by sample it goes on with no refusal, or is over by one of the numbers of its call.
use mathlib.Core.Path.{◌≡◌, refl, sym, ap, subst, ◌∙◌}
use mathlib.Core.Logic.{◌⊎◌, inl, inr}
use mathlib.Core.Bool.{Bool, true, false, not, ◌||◌, cond}
use mathlib.Core.List.{List, [], ◌∷◌, map}
use Prim.Native.Nat.{ℕ, zero, suc, ◌+◌, ◌/◌, ◌%◌, ◌≤◌, ◌<◌}
use native.Mathlib.Nat.{suc-ne-zero}
use native.Mathlib.Omega.{arith}
use borrow.Author.Tests.{eqb-true, eqb-false, eq-eqb, ne_eqb, leb-true, leb-false}
use lib.Dec.{eqb, leb}
use lib.Ieee.{Float}
use lib.ListN.{length, drop}
use Rattle.rules.specs.Rules.{NotZero, first_of, Exactly, Unrefused, Decided}
use Rattle.rules.proofs.Readings.{decides, opposite, none_left, by_itself, first-decided, first-none, first-exactly}
use Rattle.ticks.specs.declared.Sample.{Sample}
use Rattle.ticks.specs.Samples.{whole_of}
use Rattle.session.specs.declared.Session.{Session}
use Rattle.session.specs.Moves.{corrected_point, settled_again}
use Rattle.session.specs.Holding.{holds, is_awaiting, settled, awaiting}
use Rattle.session.proofs.Rules.{settled-holds, awaiting-holds}
use Rattle.session.proofs.Kept.{settled-again}
use Rattle.steps.specs.Refusals.{predict_rules, predict_refusal, agrees, correct_rules, correct_refusal}
use Rattle.steps.specs.Steps.{predict_by, predict_of, judged, correct_by, correct_of}
use Rattle.steps.proofs.Left.{predict-awaits}
use Rattle.running.specs.declared.RunAnswer.{RunAnswer}
use Rattle.running.specs.Samples.{samples_in}
use Rattle.running.specs.Runs as Runs
use Rattle.running.specs.Runs.{come, corrected, predicted, taken_by, taken, over, on_by, on, run_rules, run_refusal, run_by, run_of, AfterRun}
use Rattle.running.proofs.Read.{length-samples}
use Rattle.running.proofs.Kept.{waits, rests, taken-holds, points-short}
use Rattle.running.proofs.On.{on-over}
use Rattle.running.proofs.Bound.{began-settled}
use Rattle.demands.proofs.Records.{settled-record, awaiting-record}
use Rattle.allowance.specs.Endings.{run_table, OneOf, Ending, enough, no_sample_left, unpredicted, refused, limited}

-- ---- the numbers of a call that is refused

one_of : (xs : List (Bool × ℕ)) (n : ℕ) → NotZero n → first_of xs ≡ n → OneOf (map (λ x. x.1) xs) n
unfolding first_of
one_of [] n f e = absurd (f (sym e))
one_of ((true, m) ∷ xs) n f e = inl (sym e)
one_of ((false, m) ∷ xs) n f e = inr (one_of xs n f e)

-- past a rule that a test passes
past : (t : Bool) (m n : ℕ) (xs : List (Bool × ℕ)) → t ≡ true → first_of ((not t, m) ∷ xs) ≡ n → first_of xs ≡ n
unfolding first_of
past t m n xs e f = ap (λ b. first_of ((not b, m) ∷ xs)) (sym e) ∙ f

predict-numbers : (s : Session) (n : ℕ) → settled s ≡ true → NotZero n → predict_refusal s ≡ n → OneOf (9 ∷ 6 ∷ []) n
unfolding predict_refusal
predict-numbers s n t f e = one_of (drop 1 (predict_rules s)) n f (past (settled s) 7 n (drop 1 (predict_rules s)) t e)

correct-numbers : (s : Session) (a : Sample) (n : ℕ) → awaiting s ≡ true → NotZero n → correct_refusal s a ≡ n → OneOf (4 ∷ 13 ∷ 5 ∷ 6 ∷ 8 ∷ []) n
unfolding correct_refusal
correct-numbers s a n t f e = one_of (drop 1 (correct_rules s a)) n f (past (awaiting s) 7 n (drop 1 (correct_rules s a)) t e)

but-8 : (n : ℕ) → (n ≡ 8 → ⊥) → OneOf (4 ∷ 13 ∷ 5 ∷ 6 ∷ 8 ∷ []) n → OneOf (4 ∷ 13 ∷ 5 ∷ 6 ∷ []) n
but-8 n f (inl e) = inl e
but-8 n f (inr (inl e)) = inr (inl e)
but-8 n f (inr (inr (inl e))) = inr (inr (inl e))
but-8 n f (inr (inr (inr (inl e)))) = inr (inr (inr (inl e)))
but-8 n f (inr (inr (inr (inr (inl e))))) = absurd (f e)
but-8 n f (inr (inr (inr (inr (inr e))))) = absurd e

-- ---- one sample

-- no call was refused, and one sample more is used
pub record Goes (wanted : ℕ) (r : RunAnswer) (next : AfterRun) : Type 0 where
  pub number : next.answer.number ≡ 0
  pub points : next.answer.points ≤ wanted
  pub used : next.answer.used ≡ r.used + 1

-- or the run is over, with whatever samples there are
pub record Stops (wanted : ℕ) (r : RunAnswer) (next : AfterRun) : Type 0 where
  pub over : over wanted next.answer ≡ true
  pub ends : (all : ℕ) → r.used + 1 ≤ all → Ending wanted all next

abbrev Next : ℕ → RunAnswer → AfterRun → Type 0
Next wanted r next = Goes wanted r next ⊎ Stops wanted r next

pub is-over : (wanted : ℕ) (r : RunAnswer) → NotZero r.number → over wanted r ≡ true
unfolding over
is-over wanted r f = ap (λ t. not t || leb wanted r.points) (ne_eqb r.number 0 f)

module _ (wanted : ℕ) (r : RunAnswer) (short : r.points < wanted) where
  module _ (s : Session) (t : awaiting s ≡ true) (a : Sample) where
    judged-next : (b : Bool) →
        let j = judged b s (whole_of a) (corrected_point s (whole_of a)) in
        Next wanted r (corrected r j.session j.answer)
    judged-next true = inl (record { number = refl; points = omega (arith, short); used = refl })
    judged-next false = inl (record { number = refl; points = omega (arith, short); used = refl })

    refused-next : (n : ℕ) → NotZero n → correct_refusal s a ≡ n → (b : Bool) → eqb n 8 ≡ b →
        Next wanted r (come (cond b (settled_again s) s) n r.points (r.used + 1))
    refused-next n f e true b =
        inr (record {
          over = is-over wanted _ f;
          ends = λ all l. limited (eqb-true n 8 b) short l ((settled-record (settled_again s)).yes.0 (settled-again s (awaiting-holds s t)));
        })
    refused-next n f e false b =
        inr (record {
          over = is-over wanted _ f;
          ends = λ all l. refused (but-8 n (eqb-false n 8 b) (correct-numbers s a n t f e)) short l ((awaiting-record s).yes.0 t);
        })

    correct-next : Next wanted r (Runs.correcting r s a)
    unfolding correct_of
    correct-next = go (correct_refusal s a) refl
      where
        go : (n : ℕ) → correct_refusal s a ≡ n → Next wanted r (corrected r (correct_by n s (whole_of a)).session (correct_by n s (whole_of a)).answer)
        go zero e = judged-next (agrees s (corrected_point s (whole_of a)))
        go (suc n) e = refused-next (suc n) (suc-ne-zero n) e (eqb (suc n) 8) refl

  predict-next : (s : Session) → settled s ≡ true → (a : Sample) → Next wanted r (Runs.predicting r s a)
  unfolding predict_of
  predict-next s t a = go (predict_refusal s) refl
    where
      go : (n : ℕ) → predict_refusal s ≡ n → Next wanted r (predicted r a (predict_by n s).session (predict_by n s).answer)
      go zero e = correct-next (predict_by 0 s).session (sym (ap (λ n. awaiting (predict_by n s).session) e) ∙ predict-awaits s e) a
      go (suc n) e =
          inr (record {
            over = is-over wanted _ (suc-ne-zero n);
            ends = λ all l. unpredicted (predict-numbers s (suc n) t (suc-ne-zero n) e) short (omega (arith, l)) ((settled-record s).yes.0 t);
          })

taken_next : (wanted : ℕ) (run : AfterRun) (a : Sample) → holds run.session ≡ true → over wanted run.answer ≡ false → Next wanted run.answer (taken run a)
unfolding taken
taken_next wanted run a h o = by (is_awaiting run.session.state) refl
  where
    short : run.answer.points < wanted
    short = points-short wanted run.answer o

    by : (t : Bool) → is_awaiting run.session.state ≡ t → Next wanted run.answer (taken_by t run.answer run.session a)
    by true k = correct-next wanted run.answer short run.session (waits run.session h k) a
    by false k = predict-next wanted run.answer short run.session (rests run.session h k) a

-- ---- the samples that are left

-- over without a refusal: it has the points
has-points : (wanted : ℕ) (r : RunAnswer) → r.number ≡ 0 → over wanted r ≡ true → wanted ≤ r.points
unfolding over
has-points wanted r z e = leb-true wanted r.points (sym (ap (λ t. not t || leb wanted r.points) (eq-eqb r.number 0 z)) ∙ e)

module _ (wanted all : ℕ) where
  abbrev Fine : AfterRun → List Sample → Type 0
  Fine run left =
      (holds run.session ≡ true) × ((run.answer.number ≡ 0) × ((run.answer.points ≤ wanted) × (run.answer.used + length left ≡ all)))

  none-left-ends : (run : AfterRun) → Fine run [] → (t : Bool) → leb wanted run.answer.points ≡ t → Ending wanted all run
  none-left-ends run (h, (z, (p, u))) true e = enough z (omega (arith, p, leb-true wanted run.answer.points e)) (omega (arith, u))
  none-left-ends run (h, (z, (p, u))) false e = no_sample_left z (leb-false wanted run.answer.points e) (omega (arith, u))

  on-ends : (run : AfterRun) (left : List Sample) → Fine run left → Ending wanted all (on wanted run left)
  unfolding on
  on-ends run [] f = none-left-ends run f (leb wanted run.answer.points) refl
  on-ends run (a ∷ left) f = by (over wanted run.answer) refl (on-ends (taken run a) left)
    where
      next : Next wanted run.answer (taken run a) → (Fine (taken run a) left → Ending wanted all (on wanted (taken run a) left)) →
          Ending wanted all (on wanted (taken run a) left)
      next (inl g) on = on (taken-holds run a f.0, (g.number, (g.points, omega (arith, g.used, f.1.1.1))))
      next (inr g) on = subst (Ending wanted all) (sym (on-over wanted (taken run a) g.over left)) (g.ends all (omega (arith, f.1.1.1)))

      by : (t : Bool) → over wanted run.answer ≡ t → (Fine (taken run a) left → Ending wanted all (on wanted (taken run a) left)) →
          Ending wanted all (on_by t run (on wanted (taken run a) left))
      by true e on = enough f.1.0 (omega (arith, f.1.1.0, has-points wanted run.answer f.1.0 e)) (omega (arith, f.1.1.1))
      by false e on = next (taken_next wanted run a f.0 e) on

-- ---- the run

module _ (s : Session) (floats : List Float) where
  run-decided : Decided (run_rules s floats) (run_table s floats)
  run-decided =
      by_itself (opposite (settled-record s))
      (by_itself (opposite (decides (eqb-true (length floats % 3) 0, eq-eqb (length floats % 3) 0)))
      none_left)

  pub run-exactly : Exactly (run_table s floats) (run_refusal s floats)
  unfolding run_refusal
  run-exactly = first-exactly (run_table s floats) (first_of (run_rules s floats)) refl (first-decided run-decided)

  pub run-unrefused : Unrefused (run_table s floats) → run_refusal s floats ≡ 0
  unfolding run_refusal
  run-unrefused = (first-none (run_table s floats) (first_of (run_rules s floats)) refl (first-decided run-decided)).1

  pub run-unchanged : (wanted : ℕ) → NotZero (run_refusal s floats) → run_of s floats wanted ≡ come s (run_refusal s floats) 0 0
  unfolding run_of
  run-unchanged wanted f = go (run_refusal s floats) f
    where
      go : (n : ℕ) → NotZero n → run_by n s floats wanted ≡ come s n 0 0
      go zero f = absurd (f refl)
      go (suc n) f = refl

  pub run_ends : (wanted : ℕ) → run_refusal s floats ≡ 0 → Ending wanted (length floats / 3) (run_of s floats wanted)
  unfolding run_of
  run_ends wanted e =
      subst (λ n. Ending wanted (length floats / 3) (run_by n s floats wanted)) (sym e)
      (on-ends wanted (length floats / 3) (come s 0 0 0) (samples_in floats)
      (settled-holds s (began-settled s floats 0 e), (refl, (omega arith, omega (arith, length-samples floats)))))

-- whatever the ending
ending-points : (wanted all : ℕ) (r : AfterRun) → Ending wanted all r → (r.answer.points ≤ wanted) × (r.answer.used ≤ all)
ending-points wanted all r (enough z p u) = (omega (arith, p), u)
ending-points wanted all r (no_sample_left z p u) = (omega (arith, p), omega (arith, u))
ending-points wanted all r (unpredicted n p u t) = (omega (arith, p), omega (arith, u))
ending-points wanted all r (refused n p u t) = (omega (arith, p), u)
ending-points wanted all r (limited n p u t) = (omega (arith, p), u)

pub run-counts : (s : Session) (floats : List Float) (wanted : ℕ) →
    ((run_of s floats wanted).answer.points ≤ wanted) × ((run_of s floats wanted).answer.used ≤ length floats / 3)
unfolding run_of
run-counts s floats wanted = go (run_refusal s floats) refl
  where
    go : (n : ℕ) → run_refusal s floats ≡ n →
        ((run_by n s floats wanted).answer.points ≤ wanted) × ((run_by n s floats wanted).answer.used ≤ length floats / 3)
    go zero e =
        ending-points wanted (length floats / 3) (run_by 0 s floats wanted)
        (subst (λ n. Ending wanted (length floats / 3) (run_by n s floats wanted)) e (run_ends s floats wanted e))
    go (suc n) e = (omega arith, omega arith)
