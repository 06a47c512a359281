-- Rounds beside the other calls: a record is open, starting, or neither, and which calls each refuses with 7; what a round that opens leaves, and the count of rounds.
use mathlib.Core.Path.{◌≡◌, refl, sym, ap, ◌∙◌}
use mathlib.Core.Logic.{◌⊎◌, inl, inr, ⊎_elim}
use mathlib.Core.Bool.{Bool, true, false, false≢true, cond}
use mathlib.Core.List.{List, [], ◌∷◌}
use Prim.Native.Nat.{ℕ, zero, suc, ◌-◌}
use native.Mathlib.Numerals.{add-one}
use lib.Dec.{eqb}
use lib.Ieee.{Float}
use Rattle.integers.specs.Tests.{clash, fails}
use Rattle.integers.specs.Differences.{at}
use Rattle.integers.proofs.Differences.{at-taken}
use Rattle.axis.specs.Formulas.{places}
use Rattle.session.specs.declared.Session.{Session}
use Rattle.session.specs.Moves.{estimate_of, closed_session}
use Rattle.session.specs.Holding.{state_holds, holds, settled, awaiting}
use Rattle.session.proofs.Rules.{holding, settled-holds, awaiting-holds}
use Rattle.rules.specs.Rules.{NotZero}
use Rattle.session.specs.Requests.{Request}
use Rattle.steps.specs.Opening.{axis_samples}
use Rattle.steps.proofs.Results.{predict-gives, correct-gives, withdraw-gives}
use Rattle.rules.proofs.Tests.{hit-not}
use Rattle.steps.proofs.Left.{predict-leaves, correct-leaves, withdraw-leaves}
use Rattle.epoch_session.specs.Rounds.{rounds_agree}
use Rattle.epoch_session.specs.Records.{held_round, starting}
use Rattle.epoch_session.proofs.Rules.{keeps-start}
use Rattle.epoch_steps.specs.declared.Outcome.TheVariants as R
use Rattle.epoch_steps.specs.Refusals.{later_round, refine_refusal, start_refusal}
use Rattle.epoch_steps.specs.Steps.{refused, judged_round, refine_by, refine_of, start_of}
use Rattle.epoch_steps.proofs.Refusals.{refine-gives}
use Rattle.epoch_steps.proofs.Answered.{start-answers, refine-answers}
use Rattle.epoch_steps.proofs.Given.{given-samples}
use Rattle.epoch_steps.proofs.Left.{start-closes, start-begins, start-leaves, refine-opened, refine-settles, refine-asked, refine-starts, refine-counts, start-counts, opened-at, opened-settled}
use Rattle.demands.specs.Coordinates.{position_of, velocity_of}
use Rattle.session.specs.Coordinates.{Coordinate, on_x, on_y, on_z, axis_of}
use Rattle.demands.specs.Histories.{ours, Call, predict, correct, withdraw, refine, Event, predicting, correcting, withdrawing, refining, step, event, after, history, counted_round, mores}
use Rattle.demands.specs.ClosedForm.{Begins, place, start_origin}
use Rattle.demands.specs.Demands.{refine_number}
use Rattle.demands.specs.Theorems.{refused7, Plain}
use Rattle.epoch_steps.specs.Answers.{round_answer}
use Rattle.demands.proofs.Records.{settled-record}

-- ---- no record is open and starting

pub not-open : (s : Session) → starting s ≡ true → holds s ≡ false
not-open s t = fails (holds s) (λ h. false≢true (ap (λ k. state_holds k s) (sym (keeps-start s t).state) ∙ (holding s h).state))

pub not-starting : (s : Session) → holds s ≡ true → starting s ≡ false
not-starting s h = fails (starting s) (λ t. clash h (not-open s t))

pub closed-not-starting : starting closed_session ≡ false
unfolding starting closed_session
closed-not-starting = refl

-- ---- a record that is not open is refused with 7 by every call but a round, and one that is not starting by a later round; both are untouched

not-settled : (s : Session) → holds s ≡ false → settled s ≡ false
not-settled s h = fails (settled s) (λ t. clash (settled-holds s t) h)

not-awaiting : (s : Session) → holds s ≡ false → awaiting s ≡ false
not-awaiting s h = fails (awaiting s) (λ t. clash (awaiting-holds s t) h)

pub unopen : (s : Session) → holds s ≡ false → (call : Call) → Plain call → (step ours s call ≡ s) × (event ours s call ≡ refused7 call)
unopen s h predict p =
    let e = sym (predict-gives s (hit-not (not-settled s h))) in
    (ap (λ r. r.session) e, ap (λ r. predicting r.answer) e)
unopen s h (correct a) p =
    let e = sym (correct-gives s a (hit-not (not-awaiting s h))) in
    (ap (λ r. r.session) e, ap (λ r. correcting a r.answer) e)
unopen s h withdraw p =
    let e = sym (withdraw-gives s (hit-not (not-awaiting s h))) in
    (ap (λ r. r.session) e, ap (λ r. withdrawing r.answer) e)
unopen s h (refine floats) p = absurd p

pub unrefined : (s : Session) → starting s ≡ false → (floats : List Float) → refine_of s floats ≡ record { session = s; answer = refused 7 }
unrefined s f floats = sym (refine-gives s floats (hit-not f))

pub unstarting : (s : Session) → starting s ≡ false → (floats : List Float) → (step ours s (refine floats) ≡ s) × (event ours s (refine floats) ≡ refused7 (refine floats))
unstarting s f floats = (ap (λ r. r.session) (unrefined s f floats), ap (λ r. refining floats r.answer) (unrefined s f floats))

-- the number of a later round's answer is the refusal's
pub refine-number : (s : Session) (floats : List Float) → refine_number ours s floats ≡ refine_refusal s floats
refine-number s floats = ap (λ a. a.number) (refine-answers s floats)

-- ---- a round that opens: the record begins at the round's newest point, with its samples, and both counts at 0

module _ (s : Session) (floats : List Float) (e : (refine_of s floats).answer.outcome ≡ R.Opened) where
  samples-are : (k : Coordinate) → (axis_of k (refine_of s floats).session).samples ≡ places s.points (axis_samples s.points (place k) floats)
  unfolding later_round
  samples-are on_x = (opened-at s floats e).on-x ∙ (given-samples s.points (estimate_of s) floats).0
  samples-are on_y = (opened-at s floats e).on-y ∙ (given-samples s.points (estimate_of s) floats).1.0
  samples-are on_z = (opened-at s floats e).on-z ∙ (given-samples s.points (estimate_of s) floats).1.1

  pub round-begins : Begins (start_origin s floats) (refine_of s floats).session
  round-begins =
      record {
        held = inl ((settled-record (refine_of s floats).session).yes.0 (opened-settled s floats e));
        points = (opened-at s floats e).points;
        position = λ k. ap (position_of k) (opened-at s floats e).present;
        velocity = λ k. ap (velocity_of k) (opened-at s floats e).present;
        samples = λ k i l. ap (λ xs. at xs i) (samples-are k) ∙ at-taken s.points (9 - s.points) (axis_samples s.points (place k) floats) i l;
      }

  pub round-counts : ((refine_of s floats).session.accepted ≡ 0) × ((refine_of s floats).session.corrections ≡ 0)
  round-counts = ((opened-at s floats e).accepted, (opened-at s floats e).corrections)

-- ---- the count of rounds: while the record is starting it is theirs, and once it is not, no call but a first round makes it so again

abbrev Counting : Session → ℕ → Type 0
Counting s n = ((starting s ≡ true) × (s.corrections ≡ n)) ⊎ (starting s ≡ false)

module _ (s : Session) (n : ℕ) where
  after-round : starting s ≡ true → s.corrections ≡ n → (floats : List Float) → Counting (refine_of s floats).session (counted_round (refine_of s floats).answer.outcome n)
  unfolding refine_of
  after-round t c floats = go (refine_refusal s floats) refl
    where
      ended : (b : Bool) → Counting (cond b closed_session s) n
      ended true = inr closed-not-starting
      ended false = inl (t, c)

      judge : (b : Bool) → refine_refusal s floats ≡ 0 → rounds_agree s.tolerances (later_round s floats) (held_round s) ≡ b →
          Counting (judged_round b s (later_round s floats)).session (counted_round (judged_round b s (later_round s floats)).answer.outcome n)
      judge true e f = inr (not-starting _ (ap holds (sym (refine-opened s floats e f)) ∙ settled-holds _ (refine-settles s floats e f)))
      judge false e f =
          inl (
            ap starting (sym (refine-asked s floats e f)) ∙ refine-starts s floats e f,
            ap (λ r. r.corrections) (sym (refine-asked s floats e f)) ∙ refine-counts s floats e f ∙ add-one s.corrections ∙ ap suc c,
          )

      go : (m : ℕ) → refine_refusal s floats ≡ m → Counting (refine_by m s (later_round s floats)).session (counted_round (refine_by m s (later_round s floats)).answer.outcome n)
      go zero e = judge (rounds_agree s.tolerances (later_round s floats) (held_round s)) e refl
      go (suc m) e = ended (eqb (suc m) 8)

  -- a call that is no round leaves a starting record, and makes no other starting
  kept : {t : Session} → t ≡ s → Counting s n → Counting t n
  kept e (inl (t, c)) = inl (ap starting e ∙ t, ap (λ r. r.corrections) e ∙ c)
  kept e (inr f) = inr (ap starting e ∙ f)

  after-plain : (call : Call) → (step ours s call ≡ s) ⊎ (holds (step ours s call) ≡ true) → Counting s n → Counting (step ours s call) n
  after-plain call (inl e) c = kept e c
  after-plain call (inr h) c = inr (not-starting (step ours s call) h)

one_more : (s : Session) (es : List Event) → Counting s (mores 0 es) → (call : Call) → Counting (step ours s call) (mores 0 (event ours s call ∷ es))
one_more s es c predict = after-plain s (mores 0 es) predict (predict-leaves s) c
one_more s es c (correct a) = after-plain s (mores 0 es) (correct a) (correct-leaves s a) c
one_more s es c withdraw = after-plain s (mores 0 es) withdraw (withdraw-leaves s) c
one_more s es (inl (t, c)) (refine floats) = after-round s (mores 0 es) t c floats
one_more s es (inr f) (refine floats) = inr (ap (λ r. starting r.session) (unrefined s f floats) ∙ f)

module _ (r : Request) where
  -- the answer's number is the refusal's
  pub start-number : (round_answer (start_of r).answer).number ≡ start_refusal r
  start-number = ap (λ a. a.number) (start-answers r)

  pub first-closes : NotZero (round_answer (start_of r).answer).number → (start_of r).session ≡ closed_session
  first-closes f = start-closes r (λ e. f (start-number ∙ e))

  pub first-leaves : ((start_of r).session ≡ closed_session) ⊎ (starting (start_of r).session ≡ true)
  first-leaves = start-leaves r

  counts-on : (round_answer (start_of r).answer).number ≡ 0 → (calls : List Call) → Counting (after ours (start_of r).session calls) (mores 0 (history ours (start_of r).session calls))
  counts-on e [] =
      let z = sym start-number ∙ e in
      inl (start-begins r z, start-counts r z)
  counts-on e (call ∷ calls) = one_more (after ours (start_of r).session calls) (history ours (start_of r).session calls) (counts-on e calls) call

  pub rounds-counted : (round_answer (start_of r).answer).number ≡ 0 → (calls : List Call) → starting (after ours (start_of r).session calls) ≡ true →
      (after ours (start_of r).session calls).corrections ≡ mores 0 (history ours (start_of r).session calls)
  rounds-counted e calls t = ⊎_elim (λ c. c.1) (λ f. clash t f) (counts-on e calls)
