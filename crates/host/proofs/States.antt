-- What the state says of a record that an image holds: it is settled, it awaits a correction, or neither.
use mathlib.Core.Path.{◌≡◌, refl, sym, ap, ◌∙◌}
use mathlib.Core.Logic.{◌⊎◌, inl, inr, ⊎_elim}
use mathlib.Core.Bool.{Bool, true, false, cond, ◌||◌}
use Prim.Native.Nat.{ℕ}
use native.Mathlib.Omega.{arith}
use Rattle.integers.specs.Tests.{◌and◌, clash}
use Rattle.session.specs.declared.Session.{Session}
use Rattle.session.specs.declared.State.{State}
use Rattle.session.specs.declared.State.TheVariants.{Closed, Settled, Awaiting, Starting}
use Rattle.session.specs.Moves.{closed_session}
use Rattle.session.specs.Holding.{state_holds, holds, is_settled, is_awaiting, settled, awaiting}
use Rattle.session.specs.Requests.{Request}
use Rattle.session.proofs.Rules.{holding}
use Rattle.steps.specs.Steps.{open_of}
use Rattle.steps.proofs.Left.{open-leaves}
use Rattle.epoch_session.specs.Records.{start_holds, is_starting, starting}
use Rattle.image.specs.Standing.{stands, standing}
use Rattle.image.proofs.Stands.{stands-so, closed-standing}
use Rattle.image.proofs.Left.{settled-stands, awaiting-stands}

or-false : (b : Bool) → (b || false) ≡ b
or-false true = refl
or-false false = refl

module _ (s : Session) where
  settled-by : (k : State) → s.state ≡ k → settled s ≡ (is_settled k and holds s)
  unfolding settled
  settled-by k e = ap (λ t. is_settled t and holds s) e

  awaiting-by : (k : State) → s.state ≡ k → awaiting s ≡ (is_awaiting k and holds s)
  unfolding awaiting
  awaiting-by k e = ap (λ t. is_awaiting t and holds s) e

  starting-by : (k : State) → s.state ≡ k → starting s ≡ (is_starting k and start_holds s)
  unfolding starting
  starting-by k e = ap (λ t. is_starting t and start_holds s) e

  pub other-than-settled : (s.state ≡ Settled → ⊥) → settled s ≡ false
  other-than-settled n = by s.state refl
    where
      by : (k : State) → s.state ≡ k → settled s ≡ false
      by Settled e = absurd (n e)
      by Closed e = settled-by Closed e
      by Awaiting e = settled-by Awaiting e
      by Starting e = settled-by Starting e

  pub other-than-awaiting : (s.state ≡ Awaiting → ⊥) → awaiting s ≡ false
  other-than-awaiting n = by s.state refl
    where
      by : (k : State) → s.state ≡ k → awaiting s ≡ false
      by Awaiting e = absurd (n e)
      by Closed e = awaiting-by Closed e
      by Settled e = awaiting-by Settled e
      by Starting e = awaiting-by Starting e

  -- a record that is saved as itself stands, or is closed
  module _ (h : standing s ≡ s) where
    by-standing : (k : State) → s.state ≡ k → (closed_session.state ≡ k → ⊥) → stands s ≡ true
    unfolding standing
    by-standing k e f = go (stands s) refl
      where
        go : (t : Bool) → stands s ≡ t → stands s ≡ true
        go true g = g
        go false g = absurd (f (ap (λ t. t.state) (sym (ap (λ t. cond t s closed_session) g) ∙ h) ∙ e))

    pub settled-held : s.state ≡ Settled → settled s ≡ true
    unfolding stands closed_session
    settled-held e =
        let g = by-standing Settled e (λ c. let z : ◌≡◌ {A = ℕ} 0 1 = cc in omega arith) in
        let a : awaiting s ≡ false = awaiting-by Settled e in
        let b : starting s ≡ false = starting-by Settled e in
        sym (or-false (settled s)) ∙ sym (ap (λ t. settled s || t) (ap (λ t. t || starting s) a ∙ b)) ∙ g

    pub awaiting-held : s.state ≡ Awaiting → awaiting s ≡ true
    unfolding stands closed_session
    awaiting-held e =
        let g = by-standing Awaiting e (λ c. let z : ◌≡◌ {A = ℕ} 0 1 = cc in omega arith) in
        let a : settled s ≡ false = settled-by Awaiting e in
        let b : starting s ≡ false = starting-by Awaiting e in
        sym (or-false (awaiting s)) ∙ sym (ap (λ t. awaiting s || t) b) ∙ sym (ap (λ t. t || (awaiting s || starting s)) a) ∙ g

-- what a record that holds is saved as
pub holds-standing : (s : Session) → holds s ≡ true → standing s ≡ s
holds-standing s h = by s.state refl (holding s h).state
  where
    by : (k : State) → s.state ≡ k → state_holds s.state s ≡ true → standing s ≡ s
    by Closed e g = absurd (clash g (ap (λ k. state_holds k s) e))
    by Settled e g = stands-so s (settled-stands s (settled-by s Settled e ∙ h))
    by Awaiting e g = stands-so s (awaiting-stands s (awaiting-by s Awaiting e ∙ h))
    by Starting e g = absurd (clash g (ap (λ k. state_holds k s) e))

-- what a call leaves is untouched, or holds
pub left-standing : (s t : Session) → standing s ≡ s → (t ≡ s) ⊎ (holds t ≡ true) → standing t ≡ t
left-standing s t h (inl e) = ap standing e ∙ h ∙ sym e
left-standing s t h (inr e) = holds-standing t e

pub opened-standing : (r : Request) → standing (open_of r).session ≡ (open_of r).session
opened-standing r = ⊎_elim (λ e. ap standing e ∙ closed-standing ∙ sym e) (holds-standing (open_of r).session) (open-leaves r)
