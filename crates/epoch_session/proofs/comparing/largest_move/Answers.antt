-- `epoch_session::comparing::largest_move` meets its contract: the largest of the points passed.
use mathlib.Core.Path.{◌≡◌, ap, ap₂, subst, ◌∙◌}
use Prim.Native.Nat.{◌<◌}
use native.Mathlib.Numerals.{add-one}
use native.Mathlib.Omega.{arith}
use Rattle.axis.specs.Agreement.{sizes}
use Rattle.axis.proofs.Agreement.{sizes-proper, still-sizes, larger-sizes}
use Rattle.session.specs.Apart.{point_change}
use Rattle.epoch_session.specs.Rounds.{largest_below, earlier_point, largest_move}
use Rattle.epoch_session.proofs.Ready.{round-placed}
use Rattle.epoch_session.proofs.comparing.largest_move.Invariants.{passed}
use Rattle.epoch_session.proofs.comparing.largest_move.Goals as goal

pub loop-j-init : goal.loop-j-init
unfolding largest_below
loop-j-init c = c.no_motion-most.ensures ∙ still-sizes

pub earlier_point-requires-in-loop-j : goal.earlier_point-requires-in-loop-j
earlier_point-requires-in-loop-j c =
    record { ready_round = c.requires.ready_round_2; j_lt_points = subst (λ n. c.loop-j.j < n) c.requires.points_value (omega arith) }

pub point_change-requires : goal.point_change-requires
point_change-requires c =
    let a = c.args in
    record { placed_point = rw c.earlier_point.ensures (round-placed a.r c.requires.r_value c.loop-j.j (omega arith)); placed_point_2 = rw c.earlier_point-in-loop-j.ensures (round-placed a.before c.requires.before_value c.loop-j.j (subst (λ n. c.loop-j.j < n) c.requires.points_value (omega arith))) }

pub larger_change-most-requires : goal.larger_change-most-requires
larger_change-most-requires c = record { proper = rw c.loop-j.invariant (sizes-proper _); proper_2 = rw c.point_change.ensures (sizes-proper _) }

pub loop-j-preserved : goal.loop-j-preserved
unfolding largest_below
loop-j-preserved c =
    let a = c.args in
    let j = c.loop-j.j in
    let here = c.point_change.ensures ∙ ap₂ (λ q r. sizes (point_change q r)) c.earlier_point.ensures c.earlier_point-in-loop-j.ensures in
    rw (add-one j) (larger-sizes (passed a.r a.before j) (point_change (earlier_point a.r j) (earlier_point a.before j)) c.larger_change-most.ensures c.loop-j.invariant here)

pub returns : goal.returns
unfolding largest_move
returns c =
    let a = c.args in
    let e : c.loop-j.j ≡ a.r.points = omega arith in
    c.loop-j.invariant ∙ ap (λ n. sizes (passed a.r a.before n)) e
