-- The stepping formulas on one axis, in numerators over D. The sums S1 and S2 of an axis are those of the last accepted point n,
-- and its samples are a(n), a(n-1), .., newest first. Definitions only.
use Rattle.std.specs.Prelude.{ℕ, ◌-◌, List, ◌∷◌, ◌++◌, ℤ, pos, ◌+ℤ◌, ◌-ℤ◌, ◌*ℤ◌, take, replicate}
use Rattle.integers.specs.Differences.{at, by_differences, in_front}
use Rattle.exact.specs.declared.Exact.{Exact}
use Rattle.exact.specs.Numerator.{D, exact_of, numerator}
use Rattle.coefficients.specs.declared.Formula.TheVariants.{PositionCorrector, VelocityCorrector}
use Rattle.coefficients.specs.Formulas.{position_predictor, position_corrector, velocity_predictor, velocity_corrector, older_part}
use Rattle.axis.specs.declared.Motion.{Motion}
use Rattle.axis.specs.declared.Axis.{Axis}

-- a whole number of ticks, as a numerator
abbrev pub ticks : ℤ → ℤ
ticks n = n *ℤ pos D

abbrev pub S1 : Axis → ℤ
S1 a = numerator a.first

abbrev pub S2 : Axis → ℤ
S2 a = numerator a.second

-- an axis by its sums S1 and S2, the held sum of its older samples, its samples and its estimate: every axis is made by this
abbrev pub axis_with : Exact → Exact → Motion → List ℤ → Motion → Axis
axis_with first second older samples estimate = record { first = first; second = second; older = older; samples = samples; estimate = estimate }

-- a position and a velocity, by their numerators
unfoldable pub motion_of : ℤ → ℤ → Motion
motion_of position velocity = record { position = exact_of position; velocity = exact_of velocity }

unfoldable pub still : Motion
still = motion_of (pos 0) (pos 0)

-- ---- what the p-1 older samples of the next point give to its corrected position and velocity; S1 and S2 are no part of it

unfoldable pub older_motion : ℕ → List ℤ → Motion
older_motion p xs = motion_of (older_part PositionCorrector p (at xs)) (older_part VelocityCorrector p (at xs))

-- ---- the point n, from S2(n-1) = S2(n) - S1(n)

unfoldable pub present_motion : ℕ → Axis → Motion
present_motion p a =
    motion_of
    (S2 a -ℤ S1 a +ℤ by_differences (position_corrector p) (at a.samples))
    (S1 a +ℤ by_differences (velocity_corrector p) (at a.samples))

-- ---- the point n+1, predicted from S2(n), S1(n) and a(n), a(n-1), ..

unfoldable pub predicted_motion : ℕ → Axis → Motion
predicted_motion p a =
    motion_of
    (S2 a +ℤ by_differences (position_predictor p) (at a.samples))
    (S1 a +ℤ by_differences (velocity_predictor p) (at a.samples))

-- ---- the point n+1, corrected from S2(n), S1(n+1) = S1(n) + a(n+1) and a(n+1), a(n), ..

unfoldable pub corrected_motion : ℕ → Axis → ℤ → Motion
corrected_motion p a sample =
    motion_of
    (S2 a +ℤ by_differences (position_corrector p) (in_front sample (at a.samples)))
    (S1 a +ℤ ticks sample +ℤ by_differences (velocity_corrector p) (in_front sample (at a.samples)))

-- ---- the point n+1, accepted: S1(n+1) = S1(n) + a(n+1), S2(n+1) = S2(n) + S1(n+1)

-- nine places, of which the first p hold samples and the others 0
abbrev pub places : ℕ → List ℤ → List ℤ
places p xs = take p xs ++ replicate (9 - p) (pos 0)

unfoldable pub kept_samples : ℕ → ℤ → List ℤ → List ℤ
kept_samples p sample xs = places p (sample ∷ xs)

unfoldable pub advanced_axis : ℕ → Axis → ℤ → Axis
advanced_axis p a sample =
    axis_with
    (exact_of (S1 a +ℤ ticks sample))
    (exact_of (S2 a +ℤ (S1 a +ℤ ticks sample)))
    (older_motion p (kept_samples p sample a.samples))
    (kept_samples p sample a.samples)
    still

-- ---- the point 0: S1(0) and S2(-1) are what the corrector's sums leave of the velocity and the position given; S2(0) = S2(-1) + S1(0)

unfoldable pub opened_axis : ℕ → Motion → List ℤ → Axis
opened_axis p point xs =
    let s1 = numerator point.velocity -ℤ by_differences (velocity_corrector p) (at xs) in
    let s2 = numerator point.position -ℤ by_differences (position_corrector p) (at xs) in
    axis_with (exact_of s1) (exact_of (s2 +ℤ s1)) (older_motion p xs) xs still

-- ---- no point at all

unfoldable pub empty_axis : Axis
empty_axis = axis_with (exact_of (pos 0)) (exact_of (pos 0)) still (replicate 9 (pos 0)) still
