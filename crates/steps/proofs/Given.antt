-- What an opening is given: its point is in range as a point, and its samples are small, newest first.
use mathlib.Core.Path.{◌≡◌, refl, ap}
use mathlib.Core.Bool.{true}
use mathlib.Core.List.{List, [], ◌∷◌}
use Prim.Native.Nat.{ℕ, zero, suc, ◌+◌, ◌*◌, ◌-◌, ◌<◌}
use native.Mathlib.Omega.{arith}
use lib.Dec.{lit<}
use lib.IntN.{ℤ}
use lib.Ieee.{Float}
use lib.ListN.{length, get_or}
use Rattle.integers.specs.Differences.{at}
use Rattle.coefficients.specs.Formulas.{Small}
use Rattle.coefficients.proofs.Samples.{none, cons}
use Rattle.ticks.specs.Round.{rounded_of, ticks_in}
use Rattle.ticks.proofs.Meaning.{ticks-small}
use Rattle.axis.specs.Formulas.{places}
use Rattle.axis.specs.Estimates.{in_range}
use Rattle.axis.specs.Ready.{Placed}
use Rattle.session.specs.Moves.{point_in_range}
use Rattle.session.specs.Ready.{PlacedPoint}
use Rattle.axis.proofs.Sound.{placed}
use Rattle.axis.proofs.Places.{small-samples, places-hold}
use Rattle.session.proofs.Kept.{point-placed}
use Rattle.session.specs.declared.WholePoint.{WholePoint}
use Rattle.session.specs.Requests.{whole_motion, exact_point}
use Rattle.steps.specs.Opening.{axis_samples}

-- ---- the point

whole-placed : (x v : ℤ) → in_range (whole_motion x v) ≡ true → Placed (whole_motion x v)
whole-placed x v = placed (whole_motion x v) (lit< tt) (lit< tt)

pub exact-point-placed : (start : WholePoint) → point_in_range (exact_point start) ≡ true → PlacedPoint (exact_point start)
unfolding exact_point
exact-point-placed start = point-placed (exact_point start) (whole-placed start.x start.vx) (whole-placed start.y start.vy) (whole-placed start.z start.vz)

-- ---- the samples

pub samples-small : (p k : ℕ) (floats : List Float) → Small (axis_samples p k floats)
unfolding axis_samples
samples-small zero k floats = none
samples-small (suc p) k floats = cons (ticks-small (get_or floats (3 * p + k) Float.nan)) (samples-small p k floats)

pub places-small : (p k : ℕ) (floats : List Float) → Small (places p (axis_samples p k floats))
places-small p k floats = let xs = axis_samples p k floats in small-samples p (places p xs) (places-hold p xs (samples-small p k floats))

pub length-samples : (p k : ℕ) (floats : List Float) → length (axis_samples p k floats) ≡ p
unfolding axis_samples
length-samples zero k floats = refl
length-samples (suc p) k floats = ap suc (length-samples p k floats)

-- what stands past the end is never read
past_end : (xs : List Float) (i : ℕ) (d e : Float) → i < length xs → get_or xs i d ≡ get_or xs i e
past_end [] i d e h = absurd (omega arith)
past_end (x ∷ xs) zero d e h = refl
past_end (x ∷ xs) (suc i) d e h = past_end xs i d e (omega arith)

-- sample i of axis k, as the code reads it
pub at-samples : (p k i : ℕ) (floats : List Float) (d : Float) → i < p → 3 * (p - 1 - i) + k < length floats → at (axis_samples p k floats) i ≡ ticks_in (rounded_of (get_or floats (3 * (p - 1 - i) + k) d))
unfolding axis_samples
at-samples zero k i floats d h l = absurd (omega arith)
at-samples (suc p) k zero floats d h l =
    let e : suc p - 1 - 0 ≡ p = omega arith in
    rw e (ap (λ x. ticks_in (rounded_of x)) (past_end floats (3 * p + k) Float.nan d (rw e at l)))
at-samples (suc p) k (suc i) floats d h l =
    let e : suc p - 1 - suc i ≡ p - 1 - i = omega arith in
    rw e (at-samples p k i floats d (omega arith) (rw e at l))
