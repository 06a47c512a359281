-- Sessions by their openings: an open and a first round begin a history anew, what was opened begins at its origin, what was closed accepts nothing, and which calls
-- a starting and an open record refuse.
use mathlib.Core.Path.{◌≡◌, refl, sym, ap, ◌∙◌, subst}
use mathlib.Core.Logic.{⊎_elim}
use mathlib.Core.List.{List, [], ◌∷◌, ◌++◌, map}
use Prim.Native.Nat.{◌+◌}
use native.Mathlib.Nat.{zero-add}
use lib.Ieee.{Float}
use lib.ListN.{length}
use Rattle.session.specs.declared.Session.{Session}
use Rattle.session.specs.Moves.{closed_session}
use Rattle.session.proofs.Kept.{closed-fails}
use Rattle.rules.specs.Rules.{NotZero}
use Rattle.session.specs.Requests.{exact_point, Request}
use Rattle.demands.specs.Histories.{Implementation, ours, Call, predict, correct, withdraw, refine, Event, step, event, after, history, Act, opening, beginning, calling, lived, entries, agains}
use Rattle.demands.specs.Records.{Settings, OpenRecord, StartingRecord}
use Rattle.demands.specs.ClosedForm.{Begins, origin_at, origin, start_origin}
use Rattle.demands.specs.Demands.{open_number, start_number, Demand3, Counts}
use Rattle.demands.specs.Theorems.{Alike, OfOpenings, OfStarts, refused7, Plain, Replaces}
use Rattle.demands.proofs.Rounds.{not-open, not-starting, closed-not-starting, unopen, unstarting, first-closes}
use Rattle.demands.proofs.Ours.{demand1}
use Rattle.demands.specs.Held.{HeldTrue}
use Rattle.demands.proofs.Held.{open-true, starting-true}
use Rattle.demands.proofs.Records.{open-record, starting-record}

-- ---- any implementation

pub anew : (I : Implementation) → Replaces I → (s t : Session) (r : Request) (calls : List Call) (earlier : List Act) →
    lived I s (map calling calls ++ opening r ∷ earlier) ≡ after I (I.opens t r).session calls
anew I h s t r [] earlier = ap (λ a. a.session) (h.opens (lived I s earlier) t r)
anew I h s t r (call ∷ calls) earlier = ap (λ t. step I t call) (anew I h s t r calls earlier)

pub anew-start : (I : Implementation) → Replaces I → (s t : Session) (r : Request) (calls : List Call) (earlier : List Act) →
    lived I s (map calling calls ++ beginning r ∷ earlier) ≡ after I (I.starts t r).session calls
anew-start I h s t r [] earlier = ap (λ a. a.session) (h.starts (lived I s earlier) t r)
anew-start I h s t r (call ∷ calls) earlier = ap (λ t. step I t call) (anew-start I h s t r calls earlier)

-- requests alike have one origin
same-origin : (q r : Request) → Alike q r → origin q ≡ origin r
same-origin q r a = λ i. origin_at (a.points i) (exact_point (a.point i)) (λ k. a.samples k i)

pub of-openings : (I : Implementation) → Demand3 I → Counts I → OfOpenings I
of-openings I d c =
    record {
      unsummed = λ s r e calls. d.unsummed (origin r) (I.opens s r).session (d.begins s r e) calls;
      same = λ s t q r e f a calls others g.
          d.same (origin q) (I.opens s q).session (I.opens t r).session (d.begins s q e)
          (subst (λ o. Begins o (I.opens t r).session) (sym (same-origin q r a)) (d.begins t r f)) calls others g;
      accepted = λ s r e calls.
          c.accepted (I.opens s r).session (d.begins s r e).held calls
          ∙ ap (λ n. n + length (entries (history I (I.opens s r).session calls))) (c.opened s r e).0
          ∙ zero-add _;
      awaiting = λ s r e calls w.
          c.awaiting (I.opens s r).session (d.begins s r e).held calls w ∙ ap (λ n. agains n (history I (I.opens s r).session calls)) (c.opened s r e).1;
    }

pub of-starts : (I : Implementation) → Demand3 I → Counts I → OfStarts I
of-starts I d c =
    record {
      unsummed = λ s floats e calls. d.unsummed (start_origin s floats) (I.refines s floats).session (d.started s floats e) calls;
      accepted = λ s floats e calls.
          c.accepted (I.refines s floats).session (d.started s floats e).held calls
          ∙ ap (λ n. n + length (entries (history I (I.refines s floats).session calls))) (c.opened_round s floats e).0
          ∙ zero-add _;
      awaiting = λ s floats e calls w.
          c.awaiting (I.refines s floats).session (d.started s floats e).held calls w
          ∙ ap (λ n. agains n (history I (I.refines s floats).session calls)) (c.opened_round s floats e).1;
      same = λ s t floats r e f a calls others g.
          d.same (start_origin s floats) (I.refines s floats).session (I.opens t r).session (d.started s floats e)
          (subst (λ o. Begins o (I.opens t r).session) (sym a) (d.begins t r f)) calls others g;
      same_starts = λ s t xs ys e f a calls others g.
          d.same (start_origin s xs) (I.refines s xs).session (I.refines t ys).session (d.started s xs e) (subst (λ o. Begins o (I.refines t ys).session) (sym a) (d.started t ys f)) calls others g;
    }

-- ---- a record that counts as closed

enters_none : (call : Call) (es : List Event) → entries (refused7 call ∷ es) ≡ entries es
enters_none predict es = refl
enters_none (correct a) es = refl
enters_none withdraw es = refl
enters_none (refine floats) es = refl

pub closed : (s : Session) → ¬ OpenRecord s → ¬ StartingRecord s → (call : Call) → (step ours s call ≡ s) × (event ours s call ≡ refused7 call)
closed s h f predict = unopen s ((open-record s).no.1 h) predict tt
closed s h f (correct a) = unopen s ((open-record s).no.1 h) (correct a) tt
closed s h f withdraw = unopen s ((open-record s).no.1 h) withdraw tt
closed s h f (refine floats) = unstarting s ((starting-record s).no.1 f) floats

-- an open record and a starting one keep the numbers of the settings
pub bad-settings : (s : Session) → ¬ Settings s.tolerances s.limit → (call : Call) → (step ours s call ≡ s) × (event ours s call ≡ refused7 call)
bad-settings s n = closed s (⊎_elim (λ h. n h.filled.settings) (λ h. n h.filled.settings)) (λ h. n h.settings)

-- and their held sums are true
pub untrue-sums : (s : Session) → ¬ HeldTrue s → (call : Call) → (step ours s call ≡ s) × (event ours s call ≡ refused7 call)
untrue-sums s n = closed s (λ h. n (open-true s h)) (λ h. n (starting-true s h))

module _ (s : Session) (h : ¬ OpenRecord s) (f : ¬ StartingRecord s) where
  stays : (calls : List Call) → after ours s calls ≡ s
  stays [] = refl
  stays (call ∷ calls) = ap (λ t. step ours t call) (stays calls) ∙ (closed s h f call).0

  accepts-none : (calls : List Call) → entries (history ours s calls) ≡ []
  accepts-none [] = refl
  accepts-none (call ∷ calls) =
      ap (λ t. entries (event ours t call ∷ history ours s calls)) (stays calls)
      ∙ ap (λ e. entries (e ∷ history ours s calls)) (closed s h f call).1
      ∙ enters_none call (history ours s calls)
      ∙ accepts-none calls

-- closed and zero
pub closed-unopen : ¬ OpenRecord closed_session
closed-unopen = (open-record closed_session).no.0 closed-fails

pub closed-unstarted : ¬ StartingRecord closed_session
closed-unstarted = (starting-record closed_session).no.0 closed-not-starting

still-closed : (s : Session) → s ≡ closed_session → (calls : List Call) → (after ours s calls ≡ closed_session) × (entries (history ours s calls) ≡ [])
still-closed s e calls = (
  ap (λ s. after ours s calls) e ∙ stays closed_session closed-unopen closed-unstarted calls,
  ap (λ s. entries (history ours s calls)) e ∙ accepts-none closed_session closed-unopen closed-unstarted calls,
)

pub unopened : (s : Session) (r : Request) → NotZero (open_number ours s r) → (calls : List Call) →
    (after ours (ours.opens s r).session calls ≡ closed_session) × (entries (history ours (ours.opens s r).session calls) ≡ [])
unopened s r f = still-closed (ours.opens s r).session (demand1.closed s r f)

pub unstarted : (s : Session) (r : Request) → NotZero (start_number ours s r) → (calls : List Call) →
    (after ours (ours.starts s r).session calls ≡ closed_session) × (entries (history ours (ours.starts s r).session calls) ≡ [])
unstarted s r f = still-closed (ours.starts s r).session (first-closes r f)

-- ---- a starting record, and an open one

pub waits : (s : Session) → StartingRecord s → (call : Call) → Plain call → (step ours s call ≡ s) × (event ours s call ≡ refused7 call)
waits s h = unopen s (not-open s ((starting-record s).yes.1 h))

pub goes_on : (s : Session) → OpenRecord s → (floats : List Float) → (step ours s (refine floats) ≡ s) × (event ours s (refine floats) ≡ refused7 (refine floats))
goes_on s h = unstarting s (not-starting s ((open-record s).yes.1 h))
