-- `steps::opens::opened` meets its contract: the refusals in order.
-- ---- what is asked for, and what is known past each test
-- ---- the answers
use mathlib.Core.Path.{◌≡◌, sym, ap, ◌∙◌}
use mathlib.Core.Bool.{true}
use Prim.Native.Nat.{ℕ, ◌*◌}
use native.Mathlib.Omega.{arith}
use borrow.Author.Tests.{ne_eqb, eq-eqb}
use lib.ListN.{drop, length}
use Rattle.rules.specs.Rules.{Gives}
use Rattle.rules.proofs.Tests.{hit-not, past-not}
use Rattle.session.specs.Moves.{point_in_range}
use Rattle.session.specs.Numbers.{points_hold, settings_hold}
use Rattle.session.specs.Requests.{Request, request, exact_point}
use Rattle.session.proofs.Rules.{points-hold}
use Rattle.steps.specs.Opening.{opened_with}
use Rattle.steps.specs.Refusals.{open_rules, open_refusal}
use Rattle.steps.proofs.Given.{exact-point-placed}
use Rattle.steps.proofs.Results.{refuses, passes}
use Rattle.steps.proofs.Samples.{fault-numbered, sample-number, no-number}
use Rattle.steps.proofs.opens.opened.Goals as goal

-- the rules that are left give the number
module _ (r : Request) {n : ℕ} (one : points_hold r.points ≡ true) where
  past-1 : Gives (drop 1 (open_rules r)) n → Gives (open_rules r) n
  past-1 = past-not one

  module _ (two : length r.floats ≡ 3 * r.points) where
    past-2 : Gives (drop 2 (open_rules r)) n → Gives (open_rules r) n
    past-2 g = past-1 (past-not (eq-eqb _ _ two) g)

    module _ (three : settings_hold r.tolerances r.limit ≡ true) where
      past-3 : Gives (drop 3 (open_rules r)) n → Gives (open_rules r) n
      past-3 g = past-2 (past-not three g)

      past-4 : point_in_range (exact_point r.point) ≡ true → Gives (drop 4 (open_rules r)) n → Gives (open_rules r) n
      past-4 four g = past-3 (past-not four g)

pub returns-then-not-points_hold : goal.returns-then-not-points_hold
unfolding open_refusal
returns-then-not-points_hold c = refuses _ c.into.ensures (λ h. omega arith) (hit-not (sym c.points_hold.ensures ∙ c.if-not-points_hold.true))

pub overflow_mul-points : goal.overflow_mul-points
overflow_mul-points c = let s = (points-hold c.args.points).0 (sym c.points_hold.ensures ∙ c.if-not-points_hold.false) in omega arith

pub returns-then-floats-points : goal.returns-then-floats-points
unfolding open_refusal
returns-then-floats-points c =
    let r = request c.args.points c.args.tolerances c.args.limit c.args.point c.args.floats.now in
    refuses _ c.into-then-floats-points.ensures (λ h. omega arith) (past-1 r (sym c.points_hold.ensures ∙ c.if-not-points_hold.false) (hit-not (ne_eqb _ _ c.if-floats-points.true)))

pub returns-then-not-settings_hold : goal.returns-then-not-settings_hold
unfolding open_refusal
returns-then-not-settings_hold c =
    let r = request c.args.points c.args.tolerances c.args.limit c.args.point c.args.floats.now in
    refuses _ c.into-then-not-settings_hold.ensures (λ h. omega arith)
    (past-2 r (sym c.points_hold.ensures ∙ c.if-not-points_hold.false) c.if-floats-points.false (hit-not (sym c.settings_hold.ensures ∙ c.if-not-settings_hold.true)))

pub returns-then-not-point_in_range : goal.returns-then-not-point_in_range
unfolding open_refusal
returns-then-not-point_in_range c =
    let r = request c.args.points c.args.tolerances c.args.limit c.args.point c.args.floats.now in
    let out = ap point_in_range (sym c.exact_point-q.ensures) ∙ sym c.point_in_range.ensures ∙ c.if-not-point_in_range.true in
    refuses _ c.into-then-not-point_in_range.ensures (λ h. omega arith)
    (past-3 r (sym c.points_hold.ensures ∙ c.if-not-points_hold.false) c.if-floats-points.false (sym c.settings_hold.ensures ∙ c.if-not-settings_hold.false) (hit-not out))

pub returns-in-Some : goal.returns-in-Some
unfolding open_refusal
returns-in-Some c =
    let r = request c.args.points c.args.tolerances c.args.limit c.args.point c.args.floats.now in
    let fits = ap point_in_range (sym c.exact_point-q.ensures) ∙ sym c.point_in_range.ensures ∙ c.if-not-point_in_range.false in
    refuses _ c.refusal_of.ensures (fault-numbered _)
    (past-4 r (sym c.points_hold.ensures ∙ c.if-not-points_hold.false) c.if-floats-points.false (sym c.settings_hold.ensures ∙ c.if-not-settings_hold.false) fits (sample-number _ _ (sym c.in-Some.ensures)))

pub open_with-requires-clause-le_points : goal.open_with-requires-clause-le_points
open_with-requires-clause-le_points c = (points-hold c.args.points).0 (sym c.points_hold.ensures ∙ c.if-not-points_hold.false)

pub open_with-requires-clause-placed_point : goal.open_with-requires-clause-placed_point
open_with-requires-clause-placed_point c =
    rw c.exact_point-q.ensures (exact-point-placed c.args.point (ap point_in_range (sym c.exact_point-q.ensures) ∙ sym c.point_in_range.ensures ∙ c.if-not-point_in_range.false))

pub returns : goal.returns
unfolding open_refusal
returns c =
    let r = request c.args.points c.args.tolerances c.args.limit c.args.point c.args.floats.now in
    let fits = ap point_in_range (sym c.exact_point-q.ensures) ∙ sym c.point_in_range.ensures ∙ c.if-not-point_in_range.false in
    passes _ (c.open_with.ensures ∙ ap (λ q. opened_with r.points r.tolerances r.limit q r.floats) c.exact_point-q.ensures)
    (past-4 r (sym c.points_hold.ensures ∙ c.if-not-points_hold.false) c.if-floats-points.false (sym c.settings_hold.ensures ∙ c.if-not-settings_hold.false) fits (no-number _ (sym c.fault_in.ensures ∙ c.in_default.is)))
