-- The p-th difference of the newest sample, and on which answers it is given. Definitions only.
use Rattle.std.specs.Prelude.{ℕ, zero, suc, ◌≤◌, Bool, true, false, not, ◌||◌, cond, List, [], ◌∷◌, eqb, ℤ, pos, nat_abs}
use Rattle.integers.specs.Tests.{◌and◌}
use Rattle.integers.specs.Differences.{at, back, in_front}
use Rattle.ticks.specs.declared.WholeSample.{WholeSample}
use Rattle.session.specs.declared.Session.{Session}
use Rattle.session.specs.Coordinates.{Coordinate, on_x, on_y, on_z, axis_of, ticks_on}
use Rattle.reasons.specs.declared.Differences.{Differences}

-- B^p of x(0)
unfoldable pub difference : ℕ → (ℕ → ℤ) → ℤ
difference zero x = x 0
difference (suc p) x = difference p (back x)

-- no sample is larger than m
pub record AtMost (m : ℕ) (x : ℕ → ℤ) : Type 0 where
  pub size : (k : ℕ) → nat_abs (x k) ≤ m

-- on a coordinate: of the new sample, with the p that the record holds behind it
unfoldable pub difference_on : Coordinate → Session → WholeSample → ℤ
difference_on k s w = difference s.points (in_front (ticks_on k w) (at (axis_of k s).samples))

abbrev pub differences_of : Session → WholeSample → Differences
differences_of s w = record { given = true; x = difference_on on_x s w; y = difference_on on_y s w; z = difference_on on_z s w }

abbrev pub no_differences : Differences
no_differences = record { given = false; x = pos 0; y = pos 0; z = pos 0 }

-- ---- they are given at the first correction of a point, but not with these numbers

abbrev pub without : List ℕ
without = 4 ∷ 13 ∷ 5 ∷ 7 ∷ []

abbrev pub among : ℕ → List ℕ → Bool
among n [] = false
among n (m ∷ rest) = eqb n m || among n rest

-- no correction is counted yet
abbrev pub is_first : Session → Bool
is_first s = eqb s.corrections 0

unfoldable pub differences_with : ℕ → Session → WholeSample → Differences
differences_with n s w = cond (not (among n without) and is_first s) (differences_of s w) no_differences
