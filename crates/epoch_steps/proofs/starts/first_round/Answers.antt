-- `epoch_steps::starts::first_round` meets its contract: the refusals in order.
-- ---- past each test, what the rules that are left give
-- ---- the answers
use mathlib.Core.Path.{◌≡◌, sym, ap, subst, ◌∙◌}
use mathlib.Core.Bool.{true}
use Prim.Native.Nat.{ℕ, ◌*◌}
use native.Mathlib.Omega.{arith}
use borrow.Author.Tests.{ne_eqb, eq-eqb}
use lib.ListN.{drop, length}
use Rattle.rules.specs.Rules.{Gives}
use Rattle.rules.proofs.Tests.{hit-not, past-not, none-given}
use Rattle.epoch_coefficients.specs.Formulas.{has_centre}
use Rattle.epoch_coefficients.proofs.Centre.{at-most-9}
use Rattle.session.specs.Numbers.{points_hold, settings_hold}
use Rattle.session.specs.Moves.{point_in_range}
use Rattle.session.specs.Ready.{PlacedPoint}
use Rattle.session.specs.Requests.{Request, request, exact_point}
use Rattle.epoch_session.specs.Rounds.{round_in_range}
use Rattle.epoch_session.specs.Ready.{ReadyRound}
use Rattle.steps.proofs.Given.{exact-point-placed}
use Rattle.steps.proofs.Results.{refuses, passes}
use Rattle.steps.proofs.Samples.{fault-numbered, samples-refuse, samples-pass}
use Rattle.epoch_steps.specs.Refusals.{given_round, first_round, start_rules, start_refusal}
use Rattle.epoch_steps.proofs.Compared.{given-ready}
use Rattle.epoch_steps.proofs.starts.first_round.Goals as goal

module _ (r : Request) {n : ℕ} (one : points_hold r.points ≡ true) where
  past-1 : Gives (drop 1 (start_rules r)) n → Gives (start_rules r) n
  past-1 = past-not one

  module _ (ten : has_centre r.points ≡ true) where
    past-10 : Gives (drop 2 (start_rules r)) n → Gives (start_rules r) n
    past-10 g = past-1 (past-not ten g)

    module _ (two : length r.floats ≡ 3 * r.points) where
      past-2 : Gives (drop 3 (start_rules r)) n → Gives (start_rules r) n
      past-2 g = past-10 (past-not (eq-eqb _ _ two) g)

      module _ (three : settings_hold r.tolerances r.limit ≡ true) where
        past-3 : Gives (drop 4 (start_rules r)) n → Gives (start_rules r) n
        past-3 g = past-2 (past-not three g)

        past-6 : point_in_range (exact_point r.point) ≡ true → Gives (drop 5 (start_rules r)) n → Gives (start_rules r) n
        past-6 six g = past-3 (past-not six g)

pub returns-then-not-points_hold : goal.returns-then-not-points_hold
unfolding start_refusal
returns-then-not-points_hold c = refuses _ c.into.ensures (λ h. omega arith) (hit-not (sym c.points_hold.ensures ∙ c.if-not-points_hold.true))

pub returns-then-not-has_centre : goal.returns-then-not-has_centre
unfolding start_refusal
returns-then-not-has_centre c =
    let r = request c.args.points c.args.tolerances c.args.limit c.args.epoch c.args.floats.now in
    refuses _ c.into-then-not-has_centre.ensures (λ h. omega arith) (past-1 r (sym c.points_hold.ensures ∙ c.if-not-points_hold.false) (hit-not (sym c.has_centre.ensures ∙ c.if-not-has_centre.true)))

pub overflow_mul-points : goal.overflow_mul-points
overflow_mul-points c = let h : has_centre c.args.points ≡ true = sym c.has_centre.ensures ∙ c.if-not-has_centre.false in omega (arith, at-most-9 h)

pub returns-then-floats-points : goal.returns-then-floats-points
unfolding start_refusal
returns-then-floats-points c =
    let r = request c.args.points c.args.tolerances c.args.limit c.args.epoch c.args.floats.now in
    refuses _ c.into-then-floats-points.ensures (λ h. omega arith)
    (past-10 r (sym c.points_hold.ensures ∙ c.if-not-points_hold.false) (sym c.has_centre.ensures ∙ c.if-not-has_centre.false) (hit-not (ne_eqb _ _ c.if-floats-points.true)))

pub returns-then-not-settings_hold : goal.returns-then-not-settings_hold
unfolding start_refusal
returns-then-not-settings_hold c =
    let r = request c.args.points c.args.tolerances c.args.limit c.args.epoch c.args.floats.now in
    refuses _ c.into-then-not-settings_hold.ensures (λ h. omega arith)
    (past-2 r (sym c.points_hold.ensures ∙ c.if-not-points_hold.false) (sym c.has_centre.ensures ∙ c.if-not-has_centre.false) c.if-floats-points.false (hit-not (sym c.settings_hold.ensures ∙ c.if-not-settings_hold.true)))

pub returns-then-not-point_in_range : goal.returns-then-not-point_in_range
unfolding start_refusal
returns-then-not-point_in_range c =
    let r = request c.args.points c.args.tolerances c.args.limit c.args.epoch c.args.floats.now in
    let out = ap point_in_range (sym c.exact_point-q.ensures) ∙ sym c.point_in_range.ensures ∙ c.if-not-point_in_range.true in
    refuses _ c.into-then-not-point_in_range.ensures (λ h. omega arith)
    (past-3 r (sym c.points_hold.ensures ∙ c.if-not-points_hold.false) (sym c.has_centre.ensures ∙ c.if-not-has_centre.false) c.if-floats-points.false (sym c.settings_hold.ensures ∙ c.if-not-settings_hold.false) (hit-not out))

pub returns-in-Some : goal.returns-in-Some
unfolding start_refusal
returns-in-Some c =
    let r = request c.args.points c.args.tolerances c.args.limit c.args.epoch c.args.floats.now in
    let fits = ap point_in_range (sym c.exact_point-q.ensures) ∙ sym c.point_in_range.ensures ∙ c.if-not-point_in_range.false in
    refuses _ c.refusal_of.ensures (fault-numbered _)
    (past-6 r (sym c.points_hold.ensures ∙ c.if-not-points_hold.false) (sym c.has_centre.ensures ∙ c.if-not-has_centre.false) c.if-floats-points.false (sym c.settings_hold.ensures ∙ c.if-not-settings_hold.false) fits (samples-refuse _ _ (sym c.in-Some.ensures) _))

pub given_round-r-requires : goal.given_round-r-requires
given_round-r-requires c =
    let fits = ap point_in_range (sym c.exact_point-q.ensures) ∙ sym c.point_in_range.ensures ∙ c.if-not-point_in_range.false in
    record { points_value = sym c.has_centre.ensures ∙ c.if-not-has_centre.false; placed_point = subst PlacedPoint (sym c.exact_point-q.ensures) (exact-point-placed c.args.epoch fits); floats_len = c.if-floats-points.false }

pub round_in_range-requires : goal.round_in_range-requires
round_in_range-requires c =
    let fits = ap point_in_range (sym c.exact_point-q.ensures) ∙ sym c.point_in_range.ensures ∙ c.if-not-point_in_range.false in
    subst ReadyRound (sym c.given_round-r.ensures)
    (given-ready c.args.points c.exact_point-q.result c.args.floats.now (sym c.has_centre.ensures ∙ c.if-not-has_centre.false) (subst PlacedPoint (sym c.exact_point-q.ensures) (exact-point-placed c.args.epoch fits)))

pub returns-then-not-round_in_range : goal.returns-then-not-round_in_range
unfolding start_refusal
returns-then-not-round_in_range c =
    let r = request c.args.points c.args.tolerances c.args.limit c.args.epoch c.args.floats.now in
    let fits = ap point_in_range (sym c.exact_point-q.ensures) ∙ sym c.point_in_range.ensures ∙ c.if-not-point_in_range.false in
    let e : c.given_round-r.result ≡ first_round r = c.given_round-r.ensures ∙ ap (λ q. given_round r.points q r.floats) c.exact_point-q.ensures in
    let out = ap round_in_range (sym e) ∙ sym c.round_in_range.ensures ∙ c.if-not-round_in_range.true in
    refuses _ c.into-then-not-round_in_range.ensures (λ h. omega arith)
    (past-6 r (sym c.points_hold.ensures ∙ c.if-not-points_hold.false) (sym c.has_centre.ensures ∙ c.if-not-has_centre.false) c.if-floats-points.false (sym c.settings_hold.ensures ∙ c.if-not-settings_hold.false) fits
    (samples-pass _ (sym c.fault_in.ensures ∙ c.in_default.is) _ (hit-not out)))

pub returns : goal.returns
unfolding start_refusal
returns c =
    let r = request c.args.points c.args.tolerances c.args.limit c.args.epoch c.args.floats.now in
    let fits = ap point_in_range (sym c.exact_point-q.ensures) ∙ sym c.point_in_range.ensures ∙ c.if-not-point_in_range.false in
    let e : c.given_round-r.result ≡ first_round r = c.given_round-r.ensures ∙ ap (λ q. given_round r.points q r.floats) c.exact_point-q.ensures in
    let inside = ap round_in_range (sym e) ∙ sym c.round_in_range.ensures ∙ c.if-not-round_in_range.false in
    passes _ e
    (past-6 r (sym c.points_hold.ensures ∙ c.if-not-points_hold.false) (sym c.has_centre.ensures ∙ c.if-not-has_centre.false) c.if-floats-points.false (sym c.settings_hold.ensures ∙ c.if-not-settings_hold.false) fits
    (samples-pass _ (sym c.fault_in.ensures ∙ c.in_default.is) _ (past-not inside none-given)))
