-- `epoch_steps::refines::later_round` meets its contract: the refusals in order.
use mathlib.Core.Path.{◌≡◌, sym, ap, subst, ◌∙◌}
use mathlib.Core.Bool.{true}
use mathlib.Core.List.{List}
use Prim.Native.Nat.{ℕ, ◌*◌}
use native.Mathlib.Omega.{arith}
use borrow.Author.Tests.{ne_eqb, eq-eqb}
use lib.Ieee.{Float}
use lib.ListN.{drop, length}
use Rattle.rules.specs.Rules.{Gives}
use Rattle.rules.proofs.Tests.{hit-not, past-not, none-given}
use Rattle.epoch_coefficients.proofs.Centre.{at-most-9}
use Rattle.session.specs.declared.Session.{Session}
use Rattle.session.specs.Ready.{PlacedPoint}
use Rattle.epoch_session.specs.Rounds.{round_in_range}
use Rattle.epoch_session.specs.Records.{starting}
use Rattle.epoch_session.specs.Ready.{ReadyRound}
use Rattle.epoch_session.proofs.Rules.{starting-round}
use Rattle.steps.proofs.Results.{refuses, passes}
use Rattle.steps.proofs.Samples.{fault-numbered, samples-refuse, samples-pass}
use Rattle.epoch_steps.specs.Refusals.{early_rules, early_refusal, later_round}
use Rattle.epoch_steps.proofs.Compared.{later-is, later-ready}
use Rattle.epoch_steps.proofs.refines.later_round.Goals as goal

past-2 : (s : Session) (xs : List Float) {n : ℕ} → starting s ≡ true → length xs ≡ 3 * s.points → Gives (drop 2 (early_rules s xs)) n → Gives (early_rules s xs) n
past-2 s xs a b g = past-not a (past-not (eq-eqb _ _ b) g)

pub returns-then-not-is_starting : goal.returns-then-not-is_starting
unfolding early_refusal
returns-then-not-is_starting c = refuses _ c.into.ensures (λ h. omega arith) (hit-not (sym c.is_starting.ensures ∙ c.if-not-is_starting.true))

pub overflow_mul-s : goal.overflow_mul-s
overflow_mul-s c = let t : starting c.args.s ≡ true = sym c.is_starting.ensures ∙ c.if-not-is_starting.false in omega (arith, at-most-9 (starting-round c.args.s t).centred)

pub returns-then-floats-s : goal.returns-then-floats-s
unfolding early_refusal
returns-then-floats-s c =
    refuses _ c.into-then-floats-s.ensures (λ h. omega arith) (past-not (sym c.is_starting.ensures ∙ c.if-not-is_starting.false) (hit-not (ne_eqb _ _ c.if-floats-s.true)))

pub returns-in-Some : goal.returns-in-Some
unfolding early_refusal
returns-in-Some c =
    refuses _ c.refusal_of.ensures (fault-numbered _)
    (past-2 c.args.s c.args.floats.now (sym c.is_starting.ensures ∙ c.if-not-is_starting.false) c.if-floats-s.false (samples-refuse _ _ (sym c.in-Some.ensures) _))

pub given_round-r-requires : goal.given_round-r-requires
given_round-r-requires c =
    let h = starting-round c.args.s (sym c.is_starting.ensures ∙ c.if-not-is_starting.false) in
    record { points_value = h.centred; placed_point = subst PlacedPoint (sym c.estimate_of.ensures) h.epoch; floats_len = c.if-floats-s.false }

pub round_in_range-requires : goal.round_in_range-requires
round_in_range-requires c =
    let s = c.args.s in
    let floats = c.args.floats.now in
    let e : c.given_round-r.result ≡ later_round s floats = later-is s floats c.given_round-r.ensures c.estimate_of.ensures in
    subst ReadyRound (sym e) (later-ready s floats (sym c.is_starting.ensures ∙ c.if-not-is_starting.false))

pub returns-then-not-round_in_range : goal.returns-then-not-round_in_range
unfolding early_refusal
returns-then-not-round_in_range c =
    let s = c.args.s in
    let floats = c.args.floats.now in
    let e : c.given_round-r.result ≡ later_round s floats = later-is s floats c.given_round-r.ensures c.estimate_of.ensures in
    let out = ap round_in_range (sym e) ∙ sym c.round_in_range.ensures ∙ c.if-not-round_in_range.true in
    refuses _ c.into-then-not-round_in_range.ensures (λ h. omega arith)
    (past-2 s floats (sym c.is_starting.ensures ∙ c.if-not-is_starting.false) c.if-floats-s.false (samples-pass _ (sym c.fault_in.ensures ∙ c.in_default.is) _ (hit-not out)))

pub returns : goal.returns
unfolding early_refusal
returns c =
    let s = c.args.s in
    let floats = c.args.floats.now in
    let e : c.given_round-r.result ≡ later_round s floats = later-is s floats c.given_round-r.ensures c.estimate_of.ensures in
    let inside = ap round_in_range (sym e) ∙ sym c.round_in_range.ensures ∙ c.if-not-round_in_range.false in
    passes _ e (past-2 s floats (sym c.is_starting.ensures ∙ c.if-not-is_starting.false) c.if-floats-s.false (samples-pass _ (sym c.fault_in.ensures ∙ c.in_default.is) _ (past-not inside none-given)))
