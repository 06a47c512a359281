-- How far two points are apart. Definitions only.
use Rattle.std.specs.Prelude.{ℕ, Bool}
use Rattle.axis.specs.declared.Tolerances.{Tolerances}
use Rattle.axis.specs.Kinds.{Kind}
use Rattle.session.specs.declared.Point.{Point}
use Rattle.session.specs.Values.{values_of, largest_of, every_value, within_at, size_at}

-- each of the six values moved by at most the tolerance of its kind
unfoldable pub points_agree : Tolerances → Point → Point → Bool
points_agree tolerances q before = every_value (within_at tolerances q before)

-- of each kind the size of the largest change
unfoldable pub point_change : Point → Point → Kind → ℕ
point_change q before kind = largest_of (size_at q before) (values_of kind)
