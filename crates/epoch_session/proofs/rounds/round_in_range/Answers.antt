-- `epoch_session::rounds::round_in_range` meets its contract: the points passed are in range, and one that is not decides.
use mathlib.Core.Path.{◌≡◌, refl, sym, ap, ◌∙◌}
use native.Mathlib.Numerals.{add-one}
use native.Mathlib.Omega.{arith}
use Rattle.integers.specs.Tests.{failed, passed}
use Rattle.session.specs.Moves.{point_in_range}
use Rattle.epoch_session.specs.Rounds.{every_below, earlier_point, round_in_range}
use Rattle.epoch_session.proofs.Below.{every-fails, every_more}
use Rattle.std.proofs.lemmas.Bool.{not_from_false, not_from_true}
use Rattle.epoch_session.proofs.rounds.round_in_range.Goals as goal

pub loop-j-init : goal.loop-j-init
unfolding every_below
loop-j-init c = refl

pub returns-then-not-point_in_range : goal.returns-then-not-point_in_range
unfolding round_in_range
returns-then-not-point_in_range c =
    let r = c.args.r in
    every-fails (λ j. point_in_range (earlier_point r j)) r.points c.loop-j.j (omega arith)
    (failed (c.point_in_range.ensures ∙ ap point_in_range c.earlier_point.ensures) (not_from_false _ c.if-not-point_in_range.true))

pub loop-j-preserved : goal.loop-j-preserved
loop-j-preserved c =
    let r = c.args.r in
    rw (add-one c.loop-j.j) (every_more (λ j. point_in_range (earlier_point r j)) c.loop-j.j c.loop-j.invariant (passed (c.point_in_range.ensures ∙ ap point_in_range c.earlier_point.ensures) (not_from_true _ c.if-not-point_in_range.false)))

pub returns : goal.returns
unfolding round_in_range
returns c =
    let r = c.args.r in
    let e : c.loop-j.j ≡ r.points = omega arith in
    sym c.loop-j.invariant ∙ ap (λ n. every_below n (λ j. point_in_range (earlier_point r j))) e
