-- What holds of every exact value that an answer carries: it stands beside its report, both casts of the report lose nothing, and the report is no NaN,
-- no infinity and no minus zero. Definitions only.
use Rattle.std.specs.Prelude.{◌≡◌, ◌≤◌, ◌<◌, ◌^◌, T, pos, nat_abs}
use Rattle.std.specs.Float.{binary64}
use Rattle.std.specs.Float.Ieee.{of_int, to_signed, to_unsigned}
use Rattle.exact.specs.declared.Reported.{Reported}
use Rattle.exact.specs.Numerator.{D}
use Rattle.exact.specs.Report.{report_of}
use Rattle.exact.specs.Rounding.{ordinary}
use Rattle.steps.specs.declared.ReportedMotion.{ReportedMotion}
use Rattle.steps.specs.declared.ReportedPoint.{ReportedPoint}
use Rattle.steps.specs.declared.Answer.{Answer}

pub record Faithful (r : Reported) : Type 0 where
  pub report : r.report ≡ report_of r.exact
  pub part : r.exact.part < D
  pub whole : nat_abs r.exact.whole ≤ 2 ^ 53
  -- each cast, cast back
  pub part-back : to_unsigned 32 (of_int binary64 (pos r.exact.part)) ≡ r.exact.part
  pub whole_back : to_signed 63 (of_int binary64 r.exact.whole) ≡ r.exact.whole
  pub ordinary : T (ordinary r.report)

pub record FaithfulMotion (m : ReportedMotion) : Type 0 where
  pub position : Faithful m.position
  pub velocity : Faithful m.velocity

pub record FaithfulPoint (q : ReportedPoint) : Type 0 where
  pub on-x : FaithfulMotion q.x
  pub on-y : FaithfulMotion q.y
  pub on-z : FaithfulMotion q.z

pub record FaithfulAnswer (a : Answer) : Type 0 where
  pub point : FaithfulPoint a.point
  pub change : FaithfulMotion a.change
