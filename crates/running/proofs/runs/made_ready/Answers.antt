-- `running::runs::made_ready` meets its contract: by the session's state, and by what the prediction answers.
use mathlib.Core.Path.{◌≡◌, refl, sym, ap, ◌∙◌}
use mathlib.Core.Bool.{true, false}
use Rattle.std.specs.Prelude.{Err}
use Rattle.integers.specs.Tests.{clash}
use Rattle.session.specs.declared.State.{State}
use Rattle.session.specs.declared.State.TheVariants.{Closed, Settled, Awaiting, Starting}
use Rattle.std.proofs.lemmas.Result.{err_from_is_err_and}
use Rattle.session.specs.declared.Session.{Session}
use Rattle.session.specs.Holding.{is_awaiting}
use Rattle.steps.specs.Answers.{Prediction, AfterPredict}
use Rattle.steps.specs.Steps.{predict_of}
use Rattle.running.specs.Readied.{readied_to, readied_by, readied}
use Rattle.running.proofs.Kept.{rests}
use Rattle.running.proofs.runs.made_ready.Goals as goal
use Rattle.running.proofs.runs.made_ready.Goals.{in-Awaiting, in_default}

-- what was answered, told apart
told : (s : Session) (after : AfterPredict) → after ≡ predict_of s → is_awaiting s.state ≡ false → (p : Prediction) → after.answer ≡ p →
    readied_to after.session p ≡ readied s
unfolding readied
told s after e k p f =
    sym (ap (readied_to after.session) f)
    ∙ ap (λ x. readied_to x.session x.answer) e
    ∙ sym (ap (λ t. readied_by t s) k)

not-awaiting : (k : State) → (k ≡ Awaiting → ⊥) → is_awaiting k ≡ false
not-awaiting Closed f = refl
not-awaiting Settled f = refl
not-awaiting Awaiting f = absurd (f refl)
not-awaiting Starting f = refl

pub returns-then-matches : goal.returns-then-matches
unfolding readied
returns-then-matches c =
    let waits : is_awaiting c.args.s.state ≡ true = elim c.match-matches.branch [ in-Awaiting w ↦ ap is_awaiting w.in-Awaiting.is | in_default w ↦ clash c.if-matches.true w.matches-is ] in
    sym (ap (λ t. readied_by t c.args.s) waits)

pub predict_settled-after-requires : goal.predict_settled-after-requires
predict_settled-after-requires c =
    let rests-here : is_awaiting c.args.s.state ≡ false =
    elim c.match-matches.branch [ in-Awaiting w ↦ clash w.matches-is c.if-matches.false | in_default w ↦ not-awaiting _ w.in_default.not-Awaiting ] in
    rests c.args.s c.requires rests-here

pub returns-in_err-after : goal.returns-in_err-after
returns-in_err-after c =
    let k = c.predict_settled-after in
    let rested : is_awaiting c.args.s.state ≡ false =
    elim c.match-matches.branch [ in-Awaiting w ↦ clash w.matches-is c.if-matches.false | in_default w ↦ not-awaiting _ w.in_default.not-Awaiting ] in
    let p = err_from_is_err_and c.from_residual.result c.from_residual.ensures.1 in
    p.1 ∙ ap Err p.2 ∙ told c.args.s k.result k.ensures rested _ c.in_err-after.was

pub returns : goal.returns
returns c =
    let k = c.predict_settled-after in
    let rested : is_awaiting c.args.s.state ≡ false =
    elim c.match-matches.branch [ in-Awaiting w ↦ clash w.matches-is c.if-matches.false | in_default w ↦ not-awaiting _ w.in_default.not-Awaiting ] in
    told c.args.s k.result k.ensures rested _ c.in_ok-after.was
