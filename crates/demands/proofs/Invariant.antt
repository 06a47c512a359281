-- What a record holds after any calls: the closed form of the accepted samples, and the counts of the history. Withdrawn, repeated and refused calls leave no trace.
use mathlib.Core.Path.{◌≡◌, refl, sym, ap, ◌∙◌, subst}
use mathlib.Core.Logic.{◌⊎◌, inl, inr, ⊎_elim}
use mathlib.Core.Bool.{Bool, true, false, cond}
use mathlib.Core.List.{List, [], ◌∷◌}
use Prim.Native.Nat.{ℕ, zero, suc, ◌+◌, ◌≤◌}
use native.Mathlib.Omega.{arith}
use native.Mathlib.Nat.{add-zero}
use native.Mathlib.Numerals.{add-one}
use lib.Dec.{eqb}
use lib.Ieee.{Float}
use lib.ListN.{length}
use Rattle.integers.specs.Tests.{joined}
use Rattle.ticks.specs.declared.Sample.{Sample}
use Rattle.ticks.specs.declared.WholeSample.{WholeSample}
use Rattle.ticks.specs.Samples.{whole_of}
use Rattle.session.specs.declared.Point.{Point}
use Rattle.session.specs.declared.Session.{Session}
use Rattle.session.specs.declared.State.TheVariants.{Settled, Awaiting}
use Rattle.session.specs.Moves.{present_point, predicted_point, corrected_point, settled_again, awaiting_at, accepted_at, closed_session}
use Rattle.session.specs.Holding.{is_settled, holds, settled}
use Rattle.session.proofs.Rules.{resting, expecting}
use Rattle.steps.specs.declared.Correction.TheVariants as C
use Rattle.steps.specs.Answers.{reported_point}
use Rattle.steps.specs.Refusals.{predict_refusal, agrees, correct_refusal, withdraw_refusal}
use Rattle.steps.specs.Steps.{predict_by, predict_of, judged, correct_by, correct_of, withdraw_by, withdraw_of}
use Rattle.steps.proofs.Refusals.{corrected-awaiting}
use Rattle.steps.proofs.Left.{predict-leaves, correct-leaves, withdraw-leaves}
use Rattle.epoch_session.specs.Records.{starting}
use Rattle.epoch_steps.specs.Steps.{refused, refine_of}
use Rattle.epoch_steps.proofs.Left.{refine-leaves}
use Rattle.session.specs.Coordinates.{axis_of}
use Rattle.demands.specs.Histories.{ours, Call, predict, correct, withdraw, refine, Event, predicting, correcting, withdrawing, refining, step, event, after, history, entries, samples_of, agains}
use Rattle.demands.specs.ClosedForm.{Origin, Begins, origin_at, Stands, Tells, Told}
use Rattle.demands.proofs.Rounds.{not-starting, unrefined, unstarting}
use Rattle.demands.proofs.Standing.{points-most, begun, settled-stands, awaiting-stands, accepted-stands, predicts, corrects}
use Rattle.demands.proofs.Records.{open-record}
use Rattle.demands.specs.Records.{OpenRecord}
use Rattle.std.specs.Prelude.{Ok, Err}

-- ---- an open record stays open

abbrev Left : Session → Session → Type 0
Left s t = (t ≡ s) ⊎ ((holds t ≡ true) ⊎ ((starting t ≡ true) ⊎ (t ≡ closed_session)))

open-or-as-it-was : (s t : Session) → (t ≡ s) ⊎ (holds t ≡ true) → Left s t
open-or-as-it-was s t (inl e) = inl e
open-or-as-it-was s t (inr h) = inr (inl h)

pub leaves : (s : Session) (call : Call) → Left s (step ours s call)
leaves s predict = open-or-as-it-was s (step ours s predict) (predict-leaves s)
leaves s (correct a) = open-or-as-it-was s (step ours s (correct a)) (correct-leaves s a)
leaves s withdraw = open-or-as-it-was s (step ours s withdraw) (withdraw-leaves s)
leaves s (refine floats) = refine-leaves s floats

stays_open : (s : Session) → holds s ≡ true → (call : Call) → holds (step ours s call) ≡ true
stays_open s h predict = ⊎_elim (λ e. ap holds e ∙ h) (λ t. t) (predict-leaves s)
stays_open s h (correct a) = ⊎_elim (λ e. ap holds e ∙ h) (λ t. t) (correct-leaves s a)
stays_open s h withdraw = ⊎_elim (λ e. ap holds e ∙ h) (λ t. t) (withdraw-leaves s)
stays_open s h (refine floats) = ap holds (unstarting s (not-starting s h) floats).0 ∙ h

pub holds_after : (s : Session) → holds s ≡ true → (calls : List Call) → holds (after ours s calls) ≡ true
holds_after s h [] = h
holds_after s h (call ∷ calls) = stays_open (after ours s calls) (holds_after s h calls) call

-- ---- the record after calls that began at o with m points accepted and n corrections made, and the history of those calls

pub record Invariant (o : Origin) (m n : ℕ) (s : Session) (es : List Event) : Type 0 where
  pub stands : Stands o (samples_of (entries es)) s
  pub told : Told o es
  pub accepted : s.accepted ≡ m + length (entries es)
  pub waiting : s.state ≡ Awaiting → s.corrections ≡ agains n es
  pub resting : s.state ≡ Settled → s.corrections ≡ 0

-- no state is two
clash : ◌≡◌ {A = ℕ} 0 1 → ⊥
clash h = omega arith

not-waiting : {A : Type 0} → Settled ≡ Awaiting → A
not-waiting e = absurd (clash (cc))

not-resting : {A : Type 0} → Awaiting ≡ Settled → A
not-resting e = absurd (clash (cc))

-- ---- one call more

module _ (o : Origin) (small : o.points ≤ 9) (m n : ℕ) (s : Session) (es : List Event) (i : Invariant o m n s es) where
  abbrev ws : List WholeSample
  ws = samples_of (entries es)

  -- refused, and the record is as it was
  unmoved : (e : Event) → entries (e ∷ es) ≡ entries es → agains n (e ∷ es) ≡ agains n es → Tells o ws e → Invariant o m n s (e ∷ es)
  unmoved e f g t =
      record {
        stands = rw f i.stands;
        told = (t, i.told);
        accepted = rw f i.accepted;
        waiting = λ w. i.waiting w ∙ sym g;
        resting = i.resting;
      }

  -- settled again at the point before
  settles : (e : Event) → entries (e ∷ es) ≡ entries es → Tells o ws e → Invariant o m n (settled_again s) (e ∷ es)
  unfolding settled_again
  settles e f t =
      record {
        stands = settled-stands o (samples_of (entries (e ∷ es))) s (rw f i.stands);
        told = (t, i.told);
        accepted = rw f i.accepted;
        waiting = not-waiting;
        resting = λ _. refl;
      }

  -- awaiting, with a new estimate
  awaits : (c : ℕ) (q : Point) (e : Event) → entries (e ∷ es) ≡ entries es → c ≡ agains n (e ∷ es) → Tells o ws e → Invariant o m n (awaiting_at s c q) (e ∷ es)
  unfolding awaiting_at
  awaits c q e f g t =
      record {
        stands = awaiting-stands o (samples_of (entries (e ∷ es))) s (rw f i.stands) c q;
        told = (t, i.told);
        accepted = rw f i.accepted;
        waiting = λ _. g;
        resting = not-resting;
      }

  -- accepted, one point on
  accepts : (a : Sample) → Invariant o m n (accepted_at s (whole_of a)) (correcting a (C.Accepted (reported_point (corrected_point s (whole_of a)))) ∷ es)
  unfolding accepted_at
  accepts a =
      record {
        stands = accepted-stands o ws s i.stands (whole_of a);
        told = (corrects o ws s small i.stands (whole_of a), i.told);
        accepted = omega (arith, i.accepted);
        waiting = not-waiting;
        resting = λ _. refl;
      }

  after-predict : Invariant o m n (predict_of s).session (predicting (predict_of s).answer ∷ es)
  unfolding predict_of
  after-predict = go (predict_refusal s)
    where
      go : (r : ℕ) → Invariant o m n (predict_by r s).session (predicting (predict_by r s).answer ∷ es)
      go zero = awaits 0 (predicted_point s) (predicting (Ok (reported_point (predicted_point s)))) refl refl (predicts o ws s small i.stands)
      go (suc r) = unmoved (predicting (Err (suc r))) refl refl tt

  after-correct : (a : Sample) → Invariant o m n (correct_of s a).session (correcting a (correct_of s a).answer ∷ es)
  unfolding correct_of
  after-correct a = go (correct_refusal s a) refl
    where
      q : Point
      q = corrected_point s (whole_of a)

      judge : (b : Bool) → s.state ≡ Awaiting → Invariant o m n (judged b s (whole_of a) q).session (correcting a (judged b s (whole_of a) q).answer ∷ es)
      judge true e = accepts a
      judge false e = awaits (s.corrections + 1) q (correcting a (C.Again (reported_point q) _)) refl (add-one s.corrections ∙ ap suc (i.waiting e)) (corrects o ws s small i.stands (whole_of a))

      refused : (b : Bool) (r : ℕ) → Invariant o m n (cond b (settled_again s) s) (correcting a (C.Refused r) ∷ es)
      refused true r = settles (correcting a (C.Refused r)) refl tt
      refused false r = unmoved (correcting a (C.Refused r)) refl refl tt

      go : (r : ℕ) → correct_refusal s a ≡ r → Invariant o m n (correct_by r s (whole_of a)).session (correcting a (correct_by r s (whole_of a)).answer ∷ es)
      go zero e = judge (agrees s q) (expecting s (corrected-awaiting s a e)).state
      go (suc r) e = refused (eqb (suc r) 8) (suc r)

  after-withdraw : Invariant o m n (withdraw_of s).session (withdrawing (withdraw_of s).answer ∷ es)
  unfolding withdraw_of
  after-withdraw = go (withdraw_refusal s)
    where
      go : (r : ℕ) → Invariant o m n (withdraw_by r s).session (withdrawing (withdraw_by r s).answer ∷ es)
      go zero = settles (withdrawing (Ok tt)) refl tt
      go (suc r) = unmoved (withdrawing (Err (suc r))) refl refl tt

  -- a later round is refused, since the record is open
  after-refine : holds s ≡ true → (floats : List Float) → Invariant o m n (refine_of s floats).session (refining floats (refine_of s floats).answer ∷ es)
  after-refine h floats =
      subst (λ r. Invariant o m n r.session (refining floats r.answer ∷ es)) (sym (unrefined s (not-starting s h) floats)) (unmoved (refining floats (refused 7)) refl refl tt)

  one_more : holds s ≡ true → (call : Call) → Invariant o m n (step ours s call) (event ours s call ∷ es)
  one_more h predict = after-predict
  one_more h (correct a) = after-correct a
  one_more h withdraw = after-withdraw
  one_more h (refine floats) = after-refine h floats

-- ---- any calls

rests : (s : Session) → holds s ≡ true → s.state ≡ Settled → s.corrections ≡ 0
unfolding settled
rests s h e = (resting s (simp joined (ap is_settled e, h))).corrections

pub invariant : (o : Origin) (s : Session) → Begins o s → (calls : List Call) → Invariant o s.accepted s.corrections (after ours s calls) (history ours s calls)
invariant o s b [] =
    record {
      stands = begun o s b;
      told = tt;
      accepted = sym (add-zero s.accepted);
      waiting = λ _. refl;
      resting = rests s ((open-record s).yes.1 b.held);
    }
invariant o s b (call ∷ calls) = one_more o (points-most o s b) s.accepted s.corrections (after ours s calls) (history ours s calls) (invariant o s b calls) (holds_after s ((open-record s).yes.1 b.held) calls) call

-- ---- any record that is open begins at the point where it stands

abbrev pub origin_of : Session → Origin
origin_of s = origin_at s.points (present_point s) (λ k. (axis_of k s).samples)

pub open-begins-itself : (s : Session) → OpenRecord s → Begins (origin_of s) s
open-begins-itself s h = record { held = h; points = refl; position = λ k. refl; velocity = λ k. refl; samples = λ k i l. refl }
