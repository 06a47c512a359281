-- Estimates on one axis: the one that is held, equality and the range. Definitions only.
use Rattle.std.specs.Prelude.{Bool}
use Rattle.exact.specs.Numerator.{same_exact}
use Rattle.axis.specs.declared.Motion.{Motion}
use Rattle.axis.specs.declared.Axis.{Axis}
use Rattle.axis.specs.Kinds.{both_kinds, value_of, value_in_range}
use Rattle.axis.specs.Formulas.{axis_with}

-- an axis with another estimate
abbrev pub estimating : Axis → Motion → Axis
estimating a m = axis_with a.first a.second a.older a.samples m

-- each kind is the same
unfoldable pub same_motion : Motion → Motion → Bool
same_motion m n = both_kinds (λ kind. same_exact (value_of kind m) (value_of kind n))

-- each kind is within its own range
unfoldable pub in_range : Motion → Bool
in_range m = both_kinds (λ kind. value_in_range kind (value_of kind m))
