-- `steps::reports::report_point` meets its contract: the three axes, each of which is in range and so has reports.
use mathlib.Core.Path.{◌≡◌}
use mathlib.Core.Bool.{true}
use Prim.Native.Nat.{◌^◌, ◌≤◌}
use lib.IntN.{nat_abs}
use Rattle.integers.specs.Tests.{joined}
use Rattle.integers.specs.Parts.{integers, nat_abs-parts, one-part}
use Rattle.axis.specs.declared.Motion.{Motion}
use Rattle.axis.specs.Estimates.{in_range}
use Rattle.session.proofs.Rules.{axes-in-range}
use Rattle.steps.specs.Answers.{reported_point}
use Rattle.steps.proofs.reports.report_point.Goals as goal

small : (m : Motion) → in_range m ≡ true → (nat_abs m.position.whole ≤ 2 ^ 53) × (nat_abs m.velocity.whole ≤ 2 ^ 53)
unfolding in_range
small m h =
    let ((a, b), (e, f)) = simp joined at h in (
      omega (integers, nat_abs-parts m.position.whole, one-part m.position.whole),
      omega (integers, nat_abs-parts m.velocity.whole, one-part m.velocity.whole),
    )

pub returns : goal.returns
unfolding reported_point
returns c = rw (c.report_motion-x.ensures, c.report_motion-y.ensures, c.report_motion-z.ensures)

pub report_motion-x-requires : goal.report_motion-x-requires
report_motion-x-requires c = let t = small _ ((axes-in-range c.args.q).0 c.requires).0 in record { whole_bound = t.0; whole_bound_2 = t.1 }

pub report_motion-y-requires : goal.report_motion-y-requires
report_motion-y-requires c = let t = small _ ((axes-in-range c.args.q).0 c.requires).1.0 in record { whole_bound = t.0; whole_bound_2 = t.1 }

pub report_motion-z-requires : goal.report_motion-z-requires
report_motion-z-requires c = let t = small _ ((axes-in-range c.args.q).0 c.requires).1.1 in record { whole_bound = t.0; whole_bound_2 = t.1 }
