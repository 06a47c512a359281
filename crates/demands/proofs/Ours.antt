-- Our six definitions meet the demands.
use mathlib.Core.Path.{◌≡◌, refl, sym, ap, ◌∙◌, subst}
use mathlib.Core.Bool.{Bool, true, false}
use mathlib.Core.List.{List}
use Prim.Native.Nat.{ℕ, zero, suc}
use lib.Ieee.{Float}
use Rattle.ticks.specs.declared.Sample.{Sample}
use Rattle.ticks.specs.Samples.{whole_of}
use Rattle.session.specs.declared.Session.{Session}
use Rattle.session.specs.Moves.{corrected_point, closed_session}
use Rattle.epoch_session.specs.Rounds.{rounds_agree}
use Rattle.epoch_session.specs.Records.{held_round}
use Rattle.rules.specs.Rules.{NotZero, Rule, distinct, Exactly, First, Unrefused}
use Rattle.session.specs.Requests.{exact_point, Request}
use Rattle.steps.specs.Refusals.{predict_refusal, agrees, correct_refusal, withdraw_refusal, open_refusal}
use Rattle.steps.specs.Steps.{open_by, open_of, predict_by, predict_of, judged, correct_by, correct_of, withdraw_by, withdraw_of}
use Rattle.steps.proofs.Answers.{predict-answers, correct-answers, withdraw-answers}
use Rattle.steps.proofs.Left.{open-closes, open-leaves, predict-untouched, correct-untouched, correct-ends, withdraw-untouched}
use Rattle.epoch_steps.specs.Answers.{no_points}
use Rattle.epoch_steps.specs.Refusals.{later_round, refine_refusal, start_refusal, first_round}
use Rattle.epoch_steps.specs.Steps.{start_by, start_of, judged_round, refine_by, refine_of}
use Rattle.epoch_steps.proofs.Left.{start-closes, refine-untouched, refine-closes}
use Rattle.demands.specs.Histories.{ours, Call, step, after}
use Rattle.demands.specs.Refusals.{open_table, predict_table, correct_table, withdraw_table, start_table, refine_table}
use Rattle.demands.specs.Demands.{predict_number, correct_number, withdraw_number, Demand1, Demand2, Formulas, Demand3, Counts, Leaves}
use Rattle.demands.proofs.Opens.{number_is, open-begins, open-counts}
use Rattle.demands.proofs.Rounds.{start-number, refine-number, round-begins, round-counts, first-leaves, rounds-counted}
use Rattle.demands.proofs.Invariant.{leaves, holds_after, invariant, open-begins-itself, origin_of}
use Rattle.demands.proofs.Cowell.{unsummed, last}
use Rattle.demands.proofs.Alike.{same_point}
use Rattle.demands.proofs.Conditions.{agreement, rounds-apart}
use Rattle.demands.proofs.Tables.{open-first, predict-first, correct-first, withdraw-first, start_first, refine-first}
use Rattle.rules.proofs.Readings.{first-exactly, first-none}
use Rattle.epoch_steps.proofs.Refusals.{start-refuses}
use mathlib.Core.Logic.{◌↔◌, ◌⊎◌, inl, inr, ⊎_elim}
use Rattle.demands.proofs.Records.{open-record, starting-record}
use Rattle.demands.specs.Records.{OpenRecord, StartingRecord}

-- ---- the numbers that are answered

pub predict-number : (s : Session) → predict_number ours s ≡ predict_refusal s
predict-number s = ap (λ a. a.number) (predict-answers s)

pub correct-number : (s : Session) (a : Sample) → correct_number ours s a ≡ correct_refusal s a
correct-number s a = ap (λ a. a.number) (correct-answers s a)

pub withdraw-number : (s : Session) → withdraw_number ours s ≡ withdraw_refusal s
withdraw-number s = ap (λ a. a.number) (withdraw-answers s)

-- ---- a refused round has no points

blank-start : (r : Request) → NotZero (start_refusal r) → (start_of r).answer.track ≡ no_points
unfolding start_of
blank-start r f = ap (λ a. a.answer.track) (start-refuses r.tolerances r.limit (exact_point r.point) (first_round r) (start_refusal r) f)

blank-round : (s : Session) (floats : List Float) → NotZero (refine_refusal s floats) → (ours.refines s floats).answer.track ≡ no_points
unfolding refine_of
blank-round s floats = go (refine_refusal s floats)
  where
    go : (n : ℕ) → NotZero n → (refine_by n s (later_round s floats)).answer.track ≡ no_points
    go zero f = absurd (f refl)
    go (suc n) f = refl

-- a number that is a call's, and a table with different numbers of which it is the first rule's
exactly : (rs : List Rule) {m n : ℕ} → m ≡ n → distinct rs ≡ true → First rs n → Exactly rs m
exactly rs {m} {n} e d h = subst (Exactly rs) (sym e) (first-exactly rs n d h)

pub demand1 : Demand1 ours
demand1 =
    record {
      opens = λ s r. exactly (open_table r) (number_is r) refl (open-first r);
      predicts = λ s. exactly (predict_table s) (predict-number s) refl (predict-first s);
      corrects = λ s a. exactly (correct_table s a) (correct-number s a) refl (correct-first s a);
      withdraws = λ s. exactly (withdraw_table s) (withdraw-number s) refl (withdraw-first s);
      closed = λ s r f. open-closes r (λ e. f (number_is r ∙ e));
      unpredicted = λ s f. predict-untouched s (λ e. f (predict-number s ∙ e));
      settled = λ s a e. correct-ends s a (sym (correct-number s a) ∙ e);
      uncorrected = λ s a f g. correct-untouched s a (λ e. f (correct-number s a ∙ e)) (λ e. g (correct-number s a ∙ e));
      unwithdrawn = λ s f. withdraw-untouched s (λ e. f (withdraw-number s ∙ e));
      starts = λ s r. subst (First (start_table r)) (sym (start-number r)) (start_first r);
      refines = λ s floats. exactly (refine_table s floats) (refine-number s floats) refl (refine-first s floats);
      unstarted = λ s r f. start-closes r (λ e. f (start-number r ∙ e));
      ended = λ s floats e. refine-closes s floats (sym (refine-number s floats) ∙ e);
      unrefined = λ s floats f g. refine-untouched s floats (λ e. f (refine-number s floats ∙ e)) (λ e. g (refine-number s floats ∙ e));
      blank_start = λ s r f. blank-start r (λ e. f (start-number r ∙ e));
      blank_round = λ s floats f. blank-round s floats (λ e. f (refine-number s floats ∙ e));
    }

-- ---- where no rule applies, no number is given, and the other way round

pub open_none : (r : Request) → (open_refusal r ≡ 0) ↔ Unrefused (open_table r)
open_none r = first-none (open_table r) (open_refusal r) refl (open-first r)

pub predict-none : (s : Session) → (predict_refusal s ≡ 0) ↔ Unrefused (predict_table s)
predict-none s = first-none (predict_table s) (predict_refusal s) refl (predict-first s)

pub correct-none : (s : Session) (a : Sample) → (correct_refusal s a ≡ 0) ↔ Unrefused (correct_table s a)
correct-none s a = first-none (correct_table s a) (correct_refusal s a) refl (correct-first s a)

pub withdraw-none : (s : Session) → (withdraw_refusal s ≡ 0) ↔ Unrefused (withdraw_table s)
withdraw-none s = first-none (withdraw_table s) (withdraw_refusal s) refl (withdraw-first s)

pub start_none : (r : Request) → (start_refusal r ≡ 0) ↔ Unrefused (start_table r)
start_none r = first-none (start_table r) (start_refusal r) refl (start_first r)

pub refine-none : (s : Session) (floats : List Float) → (refine_refusal s floats ≡ 0) ↔ Unrefused (refine_table s floats)
refine-none s floats = first-none (refine_table s floats) (refine_refusal s floats) refl (refine-first s floats)

judge : (s : Session) (a : Sample) (b : Bool) → Unrefused (correct_table s a) → agrees s (corrected_point s (whole_of a)) ≡ b → correct_of s a ≡ judged b s (whole_of a) (corrected_point s (whole_of a))
unfolding correct_of
judge s a b u f = ap (λ n. correct_by n s (whole_of a)) ((correct-none s a).1 u) ∙ ap (λ t. judged t s (whole_of a) (corrected_point s (whole_of a))) f

judge-round : (s : Session) (floats : List Float) (b : Bool) → Unrefused (refine_table s floats) → rounds_agree s.tolerances (later_round s floats) (held_round s) ≡ b → refine_of s floats ≡ judged_round b s (later_round s floats)
unfolding refine_of
judge-round s floats b u f = ap (λ n. refine_by n s (later_round s floats)) ((refine-none s floats).1 u) ∙ ap (λ t. judged_round t s (later_round s floats)) f

pub demand2 : Demand2 ours
unfolding open_of predict_of withdraw_of start_of
demand2 =
    record {
      opens = λ s r u. ap (λ n. open_by n r) ((open_none r).1 u);
      predicts = λ s u. ap (λ n. predict_by n s) ((predict-none s).1 u);
      accepts = λ s a u w. judge s a true u ((agreement s (corrected_point s (whole_of a))).yes.1 w);
      repeats = λ s a u w. judge s a false u ((agreement s (corrected_point s (whole_of a))).no.1 w);
      withdraws = λ s u. ap (λ n. withdraw_by n s) ((withdraw-none s).1 u);
      starts = λ s r u. ap (λ n. start_by n r.tolerances r.limit (exact_point r.point) (first_round r)) ((start_none r).1 u);
      opens_round = λ s floats u w. judge-round s floats true u ((rounds-apart s (later_round s floats)).yes.1 w);
      asks_more = λ s floats u w. judge-round s floats false u ((rounds-apart s (later_round s floats)).no.1 w);
    }

-- ---- histories

pub formulas : Formulas ours
formulas = record { told = λ o s b calls. (invariant o s b calls).told }

pub demand3 : Demand3 ours
demand3 = record { begins = λ s. open-begins; started = round-begins; unsummed = unsummed; same = same_point }

pub counts : Counts ours
counts =
    record {
      opened = λ s. open-counts;
      opened_round = round-counts;
      rounds = λ s r e calls h. rounds-counted r e calls ((starting-record (after ours (ours.starts s r).session calls)).yes.1 h);
      accepted = λ s h calls. (invariant (origin_of s) s (open-begins-itself s h) calls).accepted;
      awaiting = λ s h calls. (invariant (origin_of s) s (open-begins-itself s h) calls).waiting;
      settled = λ s h calls. (invariant (origin_of s) s (open-begins-itself s h) calls).resting;
    }

left : (s : Session) (call : Call) → (step ours s call ≡ s) ⊎ (OpenRecord (step ours s call) ⊎ (StartingRecord (step ours s call) ⊎ (step ours s call ≡ closed_session)))
left s call =
    let t = step ours s call in
    ⊎_elim inl (λ h. inr (⊎_elim (λ h. inl ((open-record t).yes.0 h)) (λ h. inr (⊎_elim (λ h. inl ((starting-record t).yes.0 h)) inr h)) h)) (leaves s call)

pub leave : Leaves ours
leave =
    record {
      opens = λ s r. ⊎_elim inl (λ h. inr ((open-record (open_of r).session).yes.0 h)) (open-leaves r);
      starts = λ s r. ⊎_elim inl (λ h. inr ((starting-record (start_of r).session).yes.0 h)) (first-leaves r);
      steps = left;
      held = λ s h calls. (open-record (after ours s calls)).yes.0 (holds_after s ((open-record s).yes.1 h) calls);
      stands = λ o s b calls. (invariant o s b calls).stands;
      last = last;
    }
