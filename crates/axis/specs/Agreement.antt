-- Agreement on one axis: the changes between two motions, one of each kind, and whether each is within its own tolerance. Definitions only.
use Rattle.std.specs.Prelude.{ℕ, Bool, pos}
use Rattle.exact.specs.Numerator.{exact_of, larger_of}
use Rattle.axis.specs.declared.Motion.{Motion}
use Rattle.axis.specs.declared.Tolerances.{Tolerances}
use Rattle.axis.specs.Kinds.{both_kinds, value_of, motion_by, apart_by, Kind, tolerance_of, within}

-- the size of the change of each kind
unfoldable pub change_of : Motion → Motion → Kind → ℕ
change_of m before kind = apart_by (value_of kind m) (value_of kind before)

-- a size of each kind, as exact values
unfoldable pub sizes : (Kind → ℕ) → Motion
sizes size = motion_by (λ kind. exact_of (pos (size kind)))

-- the larger value of each kind
unfoldable pub larger_motion : Motion → Motion → Motion
larger_motion a b = motion_by (λ kind. larger_of (value_of kind a) (value_of kind b))

-- each kind moved by at most its own tolerance
unfoldable pub agrees_on : Tolerances → Motion → Motion → Bool
agrees_on t m before = both_kinds (λ kind. within (tolerance_of kind t) (value_of kind m) (value_of kind before))
