-- `steps::predicts::predicted` meets its contract: the three tests, in order.
use mathlib.Core.Path.{◌≡◌, sym, ap, ◌∙◌}
use mathlib.Core.Bool.{true}
use Prim.Native.Nat.{ℕ, ◌<◌}
use native.Mathlib.Omega.{arith}
use borrow.Author.Tests.{le-leb, lt-leb}
use lib.ListN.{drop}
use Rattle.rules.specs.Rules.{Gives}
use Rattle.rules.proofs.Tests.{hit, past, hit-not, past-not, none-given}
use Rattle.session.specs.declared.Session.{Session}
use Rattle.session.specs.Holding.{settled}
use Rattle.session.specs.Moves.{predicted_point, point_in_range}
use Rattle.session.proofs.Rules.{settled-ready}
use Rattle.steps.specs.Refusals.{full, predict_rules, predict_refusal}
use Rattle.steps.proofs.Results.{refuses, passes}
use Rattle.steps.proofs.predicts.predicted.Goals as goal

-- past 9, what the rules that are left give
past-9 : (s : Session) {n : ℕ} → settled s ≡ true → s.accepted < 1000000 → Gives (drop 2 (predict_rules s)) n → Gives (predict_rules s) n
unfolding full
past-9 s known h g = past-not known (past (lt-leb 1000000 s.accepted h) g)

pub returns-then-not-ready : goal.returns-then-not-ready
unfolding predict_refusal
returns-then-not-ready c = refuses (predicted_point c.args.s) c.into.ensures (λ h. omega arith) (hit-not (sym c.requires ∙ c.if-not-ready.true))

pub returns-then-s-ge1000000 : goal.returns-then-s-ge1000000
unfolding predict_refusal full
returns-then-s-ge1000000 c =
    refuses (predicted_point c.args.s) c.into-then-s-ge1000000.ensures (λ h. omega arith)
    (past-not (sym c.requires ∙ c.if-not-ready.false) (hit (le-leb 1000000 c.args.s.accepted c.if-s-ge1000000.true)))

pub predicted_point-q-requires : goal.predicted_point-q-requires
predicted_point-q-requires c = settled-ready c.args.s (sym c.requires ∙ c.if-not-ready.false)

pub returns-then-not-point_in_range : goal.returns-then-not-point_in_range
unfolding predict_refusal
returns-then-not-point_in_range c =
    let out = ap point_in_range (sym c.predicted_point-q.ensures) ∙ sym c.point_in_range.ensures ∙ c.if-not-point_in_range.true in
    refuses (predicted_point c.args.s) c.into-then-not-point_in_range.ensures (λ h. omega arith) (past-9 c.args.s (sym c.requires ∙ c.if-not-ready.false) c.if-s-ge1000000.false (hit-not out))

pub returns : goal.returns
unfolding predict_refusal
returns c =
    let fits = ap point_in_range (sym c.predicted_point-q.ensures) ∙ sym c.point_in_range.ensures ∙ c.if-not-point_in_range.false in
    passes (predicted_point c.args.s) c.predicted_point-q.ensures (past-9 c.args.s (sym c.requires ∙ c.if-not-ready.false) c.if-s-ge1000000.false (past-not fits none-given))
