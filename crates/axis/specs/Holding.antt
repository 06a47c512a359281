-- Whether an axis that a host may have filled keeps the rules. Definitions only.
use Rattle.std.specs.Prelude.{ℕ, zero, suc, ◌^◌, Bool, true, false, List, [], ◌∷◌, leb, ltb, ℤ, pos, nat_abs}
use Rattle.integers.specs.Tests.{◌and◌, eqℤ}
use Rattle.exact.specs.declared.Exact.{Exact}
use Rattle.exact.specs.Numerator.{D, between}
use Rattle.axis.specs.declared.Axis.{Axis}
use Rattle.axis.specs.Formulas.{present_motion, older_motion}
use Rattle.axis.specs.Estimates.{same_motion, in_range}

-- a remainder is from 0 to D - 1
abbrev pub is_remainder : Exact → Bool
is_remainder e = ltb e.part D

unfoldable pub remainders_hold : Axis → Bool
remainders_hold a = is_remainder a.first and is_remainder a.second and is_remainder a.estimate.position and is_remainder a.estimate.velocity

-- every place is at most 2^28 in size
unfoldable pub samples_small : List ℤ → Bool
samples_small [] = true
samples_small (x ∷ xs) = leb (nat_abs x) (2 ^ 28) and samples_small xs

-- every place past the first p is 0
unfoldable pub empty_zero : ℕ → List ℤ → Bool
empty_zero p [] = true
empty_zero zero (x ∷ xs) = eqℤ x (pos 0) and empty_zero zero xs
empty_zero (suc p) (x ∷ xs) = empty_zero p xs

-- ---- the same, as the code looks at it

-- a place that is used, or an empty one
abbrev pub place_holds : Bool → ℤ → Bool
place_holds true x = leb (nat_abs x) (2 ^ 28)
place_holds false x = eqℤ x (pos 0)

unfoldable pub places_hold : ℕ → List ℤ → Bool
places_hold p [] = true
places_hold zero (x ∷ xs) = place_holds false x and places_hold zero xs
places_hold (suc p) (x ∷ xs) = place_holds true x and places_hold p xs

-- the held sum is true: the same, whole and part, as the one that the samples give
unfoldable pub older_holds : ℕ → Axis → Bool
older_holds p a = same_motion a.older (older_motion p a.samples)

-- all rules of an axis: its remainders, its places, its present point, its estimate and its held sum
unfoldable pub axis_holds : ℕ → Axis → Bool
axis_holds p a =
    remainders_hold a
    and places_hold p a.samples
    and in_range (present_motion p a)
    and in_range a.estimate
    and older_holds p a

-- what the sums of an axis that holds are known to be, looked at before anything is added
abbrev pub first_fits : Exact → Bool
first_fits = between (2 ^ 42)

abbrev pub second_fits : Exact → Bool
second_fits = between (2 ^ 54)
