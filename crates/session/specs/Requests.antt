-- What an opening and a first round are given: a point in whole ticks, and everything else that is asked for. Definitions only.
use Rattle.std.specs.Prelude.{ℕ, List, ℤ, Float}
use Rattle.exact.specs.Numerator.{wholly}
use Rattle.axis.specs.declared.Motion.{Motion}
use Rattle.axis.specs.declared.Tolerances.{Tolerances}
use Rattle.session.specs.declared.Point.{Point}
use Rattle.session.specs.declared.WholePoint.{WholePoint}

-- ---- whole positions and velocities, as a point

abbrev pub whole_motion : ℤ → ℤ → Motion
whole_motion position velocity = record { position = wholly position; velocity = wholly velocity }

unfoldable pub exact_point : WholePoint → Point
exact_point q = record { x = whole_motion q.x q.vx; y = whole_motion q.y q.vy; z = whole_motion q.z q.vz }

-- ---- the request: p, the tolerances, the limit of corrections, the point, and three floats for each back point, the oldest first

pub record Request : Type 0 where
  pub points : ℕ
  pub tolerances : Tolerances
  pub limit : ℕ
  pub point : WholePoint
  pub floats : List Float

abbrev pub request : ℕ → Tolerances → ℕ → WholePoint → List Float → Request
request points tolerances limit point floats = record { points = points; tolerances = tolerances; limit = limit; point = point; floats = floats }
