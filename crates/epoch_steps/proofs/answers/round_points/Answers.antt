-- `epoch_steps::answers::round_points` meets its contract: each turn fills one place more.
use mathlib.Core.Path.{◌≡◌, sym, ap, ◌∙◌}
use mathlib.Core.List.{◌++◌}
use Prim.Native.Nat.{◌-◌}
use native.Mathlib.Numerals.{add-one}
use native.Mathlib.Omega.{arith}
use borrow.Author.Rules.{rules}
use lib.ListN.{set, replicate}
use Rattle.epoch_coefficients.proofs.Centre.{at-most-9}
use Rattle.session.specs.Moves.{point_in_range}
use Rattle.epoch_session.specs.Rounds.{earlier_point, round_in_range}
use Rattle.epoch_session.proofs.Below.{every-at}
use Rattle.steps.specs.Answers.{reported_point, no_point}
use Rattle.epoch_steps.specs.Answers.{round_points, no_points}
use Rattle.epoch_steps.proofs.Places.{filled_to, filled_next, take_all}
use Rattle.epoch_steps.proofs.answers.round_points.Goals as goal

pub loop-i-init : goal.loop-i-init
unfolding no_points
loop-i-init c = search rules

pub report_point-requires : goal.report_point-requires
unfolding round_in_range
report_point-requires c =
    let r = c.args.r in
    let j = r.points - 1 - c.loop-i.i in
    ap point_in_range c.earlier_point.ensures ∙ every-at (λ j. point_in_range (earlier_point r j)) r.points j (omega arith) c.requires.r_value

pub loop-i-preserved : goal.loop-i-preserved
loop-i-preserved c =
    let l = c.loop-i in
    let r = c.args.r in
    let i = l.i in
    let q = c.report_point.ensures ∙ ap reported_point c.earlier_point.ensures in
    ap (set l.out i) q
    ∙ ap (λ out. set out i (reported_point (earlier_point r (r.points - 1 - i)))) l.invariant
    ∙ filled_next r r.points i (omega (arith, at-most-9 c.requires.ready_round.centred)) (omega arith)
    ∙ ap (filled_to 9 r r.points) (sym (add-one i))

pub returns : goal.returns
unfolding round_points
returns c =
    let r = c.args.r in
    let e : c.loop-i.i ≡ r.points = omega arith in
    c.loop-i.invariant ∙ ap (filled_to 9 r r.points) e ∙ ap (λ qs. qs ++ replicate (9 - r.points) no_point) (take_all r r.points)
