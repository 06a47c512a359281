-- What is said of every result that the promises allow, shown: it is what our six functions give, and of those `demands` has shown it.
use mathlib.Core.Path.{◌≡◌, sym, ap, ◌∙◌, subst}
use mathlib.Core.List.{List}
use Rattle.session.specs.declared.Session.{Session}
use Rattle.demands.specs.Histories.{Implementation, ours, Call, Event, after, history, entries, samples_of}
use Rattle.demands.specs.Records.{OpenRecord}
use Rattle.demands.specs.Held.{HeldTrue}
use Rattle.demands.specs.Before.{bare}
use Rattle.demands.specs.ClosedForm.{Origin, Begins}
use Rattle.demands.proofs.Theorems.{our-calls}
use Rattle.promised.specs.Runs.{Runs, Keeps}
use Rattle.promised.specs.Theorems.{Meets, Keeping, Counting, Together, Promised}
use Rattle.promised.proofs.Runs.{run-left, run-told, life-left}

-- both are one pair
one : {A B : Type 0} {c s t : A} {d a b : B} → s ≡ c → a ≡ d → t ≡ c → b ≡ d → (s ≡ t) × (a ≡ b)
one e f g h = (e ∙ sym g, f ∙ sym h)

-- ---- six functions that keep the promises are ours

same : (I : Implementation) → Keeps I → ours ≡ I
same I k =
    λ i.
    record {
      opens = λ s r. record { session = sym (k.opens s r).0 i; answer = sym (k.opens s r).1 i };
      predicts = λ s. record { session = sym (k.predicts s).0 i; answer = sym (k.predicts s).1 i };
      corrects = λ s a. record { session = sym (k.corrects s a).0 i; answer = sym (k.corrects s a).1 i };
      withdraws = λ s. record { session = sym (k.withdraws s).0 i; answer = sym (k.withdraws s).1 i };
      starts = λ s r. record { session = sym (k.starts s r).0 i; answer = sym (k.starts s r).1 i };
      refines = λ s floats. record { session = sym (k.refines s floats).0 i; answer = sym (k.refines s floats).1 i };
    }

ours-meet : Meets ours
ours-meet =
    record {
      demand1 = our-calls.demand1;
      demand2 = our-calls.demand2;
      formulas = our-calls.formulas;
      in_fractions = our-calls.in_fractions;
      demand3 = our-calls.demand3;
      counts = our-calls.counts;
      leaves = our-calls.leaves;
      held = our-calls.held;
      unchanged = our-calls.unchanged;
      openings = our-calls.of_openings;
      starts = our-calls.of_starts;
      replaces = our-calls.replaces;
    }

-- ---- what holds of the history of our functions holds of any that the promises allow

carried : (P : Session → List Event → Type 0) {s left : Session} {calls : List Call} {es : List Event} → Runs s calls left es →
    P (after ours s calls) (history ours s calls) → P left es
carried P {s} {left} {calls} {es} run h = subst (λ t. P t es) (sym (run-left run)) (subst (P (after ours s calls)) (sym (run-told run)) h)

pub keeps : (o : Origin) (s : Session) (calls : List Call) → Begins o s → Keeping o (after ours s calls) (history ours s calls)
keeps o s calls b =
    record {
      told = our-calls.formulas.told o s b calls;
      told_in_ticks = our-calls.in_fractions.told o s b calls;
      unsummed = our-calls.demand3.unsummed o s b calls;
      in_ticks = our-calls.in_ticks o s b calls;
      held = our-calls.leaves.held s b.held calls;
      stands = our-calls.leaves.stands o s b calls;
      last = our-calls.leaves.last o s b calls;
    }

pub counts : (s : Session) (calls : List Call) → OpenRecord s → Counting s (after ours s calls) (history ours s calls)
counts s calls h =
    record {
      accepted = our-calls.counts.accepted s h calls;
      awaiting = our-calls.counts.awaiting s h calls;
      settled = our-calls.counts.settled s h calls;
    }

pub together : (o : Origin) (s t : Session) (calls others : List Call) → Begins o s → Begins o t →
    samples_of (entries (history ours s calls)) ≡ samples_of (entries (history ours t others)) → Together (after ours s calls) (after ours t others)
together o s t calls others b d e =
    let same = our-calls.demand3.same o s t b d calls others e in
    record { present = same.present; next = λ u v q r f g. same.next q r (sym f.1) (sym g.1) }

-- two histories at once
alike : (o : Origin) {s t left gone : Session} {calls others : List Call} {es fs : List Event} → Begins o s → Begins o t →
    Runs s calls left es → Runs t others gone fs → samples_of (entries es) ≡ samples_of (entries fs) → Together left gone
alike o {s} {t} {left} {gone} {calls} {others} {es} {fs} b d run other =
    carried (λ u gs. samples_of (entries gs) ≡ samples_of (entries fs) → Together u gone) run
    (carried (λ v hs. samples_of (entries (history ours s calls)) ≡ samples_of (entries hs) → Together (after ours s calls) v) other (together o s t calls others b d))

pub promised : Promised
promised =
    record {
      one_result =
          record {
            opens = λ r s t a b h k. one h.0 h.1 k.0 k.1;
            predicts = λ s t u a b h k. one h.0 h.1 k.0 k.1;
            corrects = λ s x t u a b h k. one h.0 h.1 k.0 k.1;
            withdraws = λ s t u a b h k. one h.0 h.1 k.0 k.1;
            starts = λ r s t a b h k. one h.0 h.1 k.0 k.1;
            refines = λ s x t u a b h k. one h.0 h.1 k.0 k.1;
            runs = λ s x n t u a b h k. one h.0 h.1 k.0 k.1;
          };
      run = λ s left calls es run. (run-left run, run-told run);
      life = λ s left acts life. life-left life;
      meets = λ I k. subst Meets (same I k) ours-meet;
      opened = λ r left h. subst (Begins _) (sym h.0) (our-calls.demand3.begins left r (sym h.1));
      started = λ s left floats a h e. subst (Begins _) (sym h.0) (our-calls.demand3.started s floats (sym (ap (λ b. b.outcome) h.1) ∙ e));
      keeps = λ o s left calls es b run. carried (Keeping o) run (keeps o s calls b);
      counts = λ s left calls es h run. carried (Counting s) run (counts s calls h);
      held = λ s left acts h life. subst HeldTrue (sym (life-left life)) (our-calls.held.always s h acts);
      unchanged_answers = λ s left calls es h run. our-calls.unchanged.histories s h calls ∙ sym (run-told run);
      unchanged_record = λ s left acts h life. our-calls.unchanged.lives s h acts ∙ sym (ap bare (life-left life));
      alike = λ o s t left gone calls others es fs b d run other. alike o b d run other;
    }
