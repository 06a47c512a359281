-- `epoch_session::comparing::rounds_agree` meets its contract: the points passed agree, and one that does not decides.
use mathlib.Core.Path.{◌≡◌, refl, sym, ap, ap₂, subst, ◌∙◌}
use Prim.Native.Nat.{◌<◌}
use native.Mathlib.Numerals.{add-one}
use native.Mathlib.Omega.{arith}
use Rattle.integers.specs.Tests.{failed, passed}
use Rattle.session.specs.Apart.{points_agree}
use Rattle.epoch_session.specs.Rounds.{every_below, earlier_point, rounds_agree}
use Rattle.epoch_session.proofs.Below.{every-fails, every_more}
use Rattle.epoch_session.proofs.Ready.{round-placed}
use Rattle.std.proofs.lemmas.Bool.{not_from_false, not_from_true}
use Rattle.epoch_session.proofs.comparing.rounds_agree.Goals as goal

pub loop-j-init : goal.loop-j-init
unfolding every_below
loop-j-init c = refl

pub earlier_point-requires-in-loop-j : goal.earlier_point-requires-in-loop-j
earlier_point-requires-in-loop-j c =
    record { ready_round = c.requires.ready_round_2; j_lt_points = subst (λ n. c.loop-j.j < n) c.requires.points_value (omega arith) }

pub points_agree-requires : goal.points_agree-requires
points_agree-requires c =
    let a = c.args in
    record { tolerable = c.requires.tolerable; placed_point = rw c.earlier_point.ensures (round-placed a.r c.requires.r_value c.loop-j.j (omega arith)); placed_point_2 = rw c.earlier_point-in-loop-j.ensures (round-placed a.before c.requires.before_value c.loop-j.j (subst (λ n. c.loop-j.j < n) c.requires.points_value (omega arith))) }

pub returns-then-not-points_agree : goal.returns-then-not-points_agree
unfolding rounds_agree
returns-then-not-points_agree c =
    let a = c.args in
    let j = c.loop-j.j in
    let e : c.points_agree.result ≡ points_agree a.tolerances (earlier_point a.r j) (earlier_point a.before j) = c.points_agree.ensures ∙ ap₂ (points_agree a.tolerances) c.earlier_point.ensures c.earlier_point-in-loop-j.ensures in
    every-fails (λ j. points_agree a.tolerances (earlier_point a.r j) (earlier_point a.before j)) a.r.points j (omega arith) (failed e (not_from_false _ c.if-not-points_agree.true))

pub loop-j-preserved : goal.loop-j-preserved
loop-j-preserved c =
    let a = c.args in
    let j = c.loop-j.j in
    let e : c.points_agree.result ≡ points_agree a.tolerances (earlier_point a.r j) (earlier_point a.before j) = c.points_agree.ensures ∙ ap₂ (points_agree a.tolerances) c.earlier_point.ensures c.earlier_point-in-loop-j.ensures in
    rw (add-one j) (every_more (λ j. points_agree a.tolerances (earlier_point a.r j) (earlier_point a.before j)) j c.loop-j.invariant (passed e (not_from_true _ c.if-not-points_agree.false)))

pub returns : goal.returns
unfolding rounds_agree
returns c =
    let a = c.args in
    let e : c.loop-j.j ≡ a.r.points = omega arith in
    sym c.loop-j.invariant ∙ ap (λ n. every_below n (λ j. points_agree a.tolerances (earlier_point a.r j) (earlier_point a.before j))) e
