-- The parts of a point that its samples give, beside its sums: of the point n, and of the point n+1 predicted. Definitions only.
use Rattle.std.specs.Prelude.{ℕ, List, ℤ}
use Rattle.integers.specs.Differences.{at, by_differences}
use Rattle.coefficients.specs.Formulas.{position_predictor, position_corrector, velocity_predictor, velocity_corrector}
use Rattle.axis.specs.declared.Motion.{Motion}
use Rattle.axis.specs.Formulas.{motion_of}

unfoldable pub corrector_part : ℕ → List ℤ → Motion
corrector_part p xs = motion_of (by_differences (position_corrector p) (at xs)) (by_differences (velocity_corrector p) (at xs))

unfoldable pub predictor_part : ℕ → List ℤ → Motion
predictor_part p xs = motion_of (by_differences (position_predictor p) (at xs)) (by_differences (velocity_predictor p) (at xs))
