-- `host::samples::count` meets its contract: by the number of points, and by the number of bytes.
use Rattle.std.proofs.Common.{ap, ap₂, ◌*◌, sym, ◌∙◌, cond, eqb, arith, eq-eqb, ne_eqb}
use Rattle.integers.specs.Tests.{◌and◌}
use Rattle.session.proofs.Rules.{points-hold}
use Rattle.host.specs.Samples.{float_count}
use Rattle.host.proofs.samples.count.Goals as goal
use Rattle.host.proofs.samples.count.Goals.{else-points_hold-via-then-points_hold+else-bytes-points, else-points_hold-via-else-points_hold}

pub overflow_mul-points : goal.overflow_mul-points
overflow_mul-points c =
    let (_, most) = (points-hold c.args.points).0 (sym c.points_hold.ensures ∙ c.if-points_hold.true) in
    omega arith

pub returns-then-bytes-points : goal.returns-then-bytes-points
unfolding float_count
returns-then-bytes-points c =
    let a = c.args in
    sym (ap₂ (λ t u. cond (t and u) (3 * a.points) 0) (sym c.points_hold.ensures ∙ c.if-points_hold.true) (eq-eqb a.bytes (24 * a.points) c.if-bytes-points.true))

pub returns-else-points_hold : goal.returns-else-points_hold
unfolding float_count
returns-else-points_hold c =
    let a = c.args in
    elim c.else-points_hold.branch [
      | else-points_hold-via-then-points_hold+else-bytes-points w ↦
          sym (ap₂ (λ t u. cond (t and u) (3 * a.points) 0) (sym c.points_hold.ensures ∙ w.if-points_hold.true) (ne_eqb a.bytes (24 * a.points) w.if-bytes-points.false))
      | else-points_hold-via-else-points_hold w ↦
          sym (ap (λ t. cond (t and eqb a.bytes (24 * a.points)) (3 * a.points) 0) (sym c.points_hold.ensures ∙ w.if-points_hold.false))
    ]
