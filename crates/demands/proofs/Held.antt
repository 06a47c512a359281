-- The held sums after any calls: what the calls leave is open, starting, closed and zero, or untouched.
use mathlib.Core.Path.{◌≡◌, refl, sym, subst}
use mathlib.Core.Logic.{◌⊎◌, inl, inr, ⊎_elim}
use mathlib.Core.List.{List, [], ◌∷◌}
use Rattle.axis.specs.Kinds.{Kind, value_of}
use Rattle.axis.specs.Formulas.{still, empty_axis}
use Rattle.session.specs.declared.Session.{Session}
use Rattle.session.specs.Coordinates.{axis_of}
use Rattle.session.specs.Moves.{closed_session}
use Rattle.session.specs.Requests.{Request}
use Rattle.session.proofs.Coordinates.{on-each}
use Rattle.session.proofs.Values.{of-each}
use Rattle.demands.specs.Histories.{Implementation, Call, step, Act, opening, beginning, calling, lived}
use Rattle.demands.specs.Records.{Zero, OpenRecord, StartingRecord}
use Rattle.demands.specs.Demands.{Leaves}
use Rattle.demands.specs.Held.{HeldIn, HeldTrue, HeldAfterCalls}
use Rattle.demands.proofs.Fields.{still-to}

-- ---- records

pub open-true : (s : Session) → OpenRecord s → HeldTrue s
open-true s =
    ⊎_elim
    (λ h. subst (λ k. HeldIn k s) (sym h.state) h.filled.older)
    (λ h. subst (λ k. HeldIn k s) (sym h.state) h.filled.older)

pub starting-true : (s : Session) → StartingRecord s → HeldTrue s
starting-true s h = subst (λ k. HeldIn k s) (sym h.state) h.older

still-zero : (kind : Kind) → Zero (value_of kind still)
still-zero = let (p, v) = still-to refl in of-each (λ kind. Zero (value_of kind still)) p v

new_true : HeldTrue closed_session
unfolding closed_session empty_axis
new_true = on-each (λ k. (kind : Kind) → Zero (value_of kind (axis_of k closed_session).older)) still-zero still-zero still-zero

closed-true : (s : Session) → s ≡ closed_session → HeldTrue s
closed-true s e = subst HeldTrue (sym e) new_true

-- ---- calls

pub held_after : (I : Implementation) → Leaves I → HeldAfterCalls I
held_after I h = record { new = new_true; opens = opens; starts = starts; steps = steps; always = always }
  where
    opens : (s : Session) (r : Request) → HeldTrue (I.opens s r).session
    opens s r = ⊎_elim (closed-true (I.opens s r).session) (open-true (I.opens s r).session) (h.opens s r)

    starts : (s : Session) (r : Request) → HeldTrue (I.starts s r).session
    starts s r = ⊎_elim (closed-true (I.starts s r).session) (starting-true (I.starts s r).session) (h.starts s r)

    steps : (s : Session) (call : Call) → (step I s call ≡ s) ⊎ HeldTrue (step I s call)
    steps s call = let t = step I s call in ⊎_elim inl (λ k. inr (⊎_elim (open-true t) (⊎_elim (starting-true t) (closed-true t)) k)) (h.steps s call)

    always : (s : Session) → HeldTrue s → (acts : List Act) → HeldTrue (lived I s acts)
    always s t [] = t
    always s t (opening r ∷ acts) = opens (lived I s acts) r
    always s t (beginning r ∷ acts) = starts (lived I s acts) r
    always s t (calling call ∷ acts) = let u = always s t acts in ⊎_elim (λ e. subst HeldTrue (sym e) u) (λ v. v) (steps (lived I s acts) call)
