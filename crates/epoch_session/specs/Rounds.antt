-- A round of a start: the points that it gives, and how it is compared with the round before it. Definitions only.
use Rattle.std.specs.Prelude.{ℕ, zero, suc, max, Bool, true, List, ℤ}
use Rattle.integers.specs.Tests.{◌and◌}
use Rattle.epoch_axis.specs.Formulas.{earlier_motion, started_axis}
use Rattle.axis.specs.declared.Tolerances.{Tolerances}
use Rattle.axis.specs.Kinds.{Kind}
use Rattle.session.specs.declared.Point.{Point}
use Rattle.session.specs.Moves.{point_in_range}
use Rattle.session.specs.Apart.{points_agree, point_change}
use Rattle.epoch_session.specs.declared.Round.{Round}

-- from the epoch and the samples of each axis, newest first: the axes at the newest point
unfoldable pub round_of : ℕ → Point → List ℤ → List ℤ → List ℤ → Round
round_of p epoch xs ys zs =
    record { points = p; x = started_axis p epoch.x xs; y = started_axis p epoch.y ys; z = started_axis p epoch.z zs }

-- the point j steps before the newest
unfoldable pub earlier_point : Round → ℕ → Point
earlier_point r j =
    record {
      x = earlier_motion r.points r.x j;
      y = earlier_motion r.points r.y j;
      z = earlier_motion r.points r.z j;
    }

-- a test at 0, 1, .., n-1, and the largest of n values
unfoldable pub every_below : ℕ → (ℕ → Bool) → Bool
every_below zero test = true
every_below (suc n) test = every_below n test and test n

unfoldable pub largest_below : ℕ → (ℕ → ℕ) → ℕ
largest_below zero f = 0
largest_below (suc n) f = max (largest_below n f) (f n)

-- every point is in range
unfoldable pub round_in_range : Round → Bool
round_in_range r = every_below r.points (λ j. point_in_range (earlier_point r j))

-- ---- compared with another round

-- at every point, all six changes
unfoldable pub rounds_agree : Tolerances → Round → Round → Bool
rounds_agree tolerances r before = every_below r.points (λ j. points_agree tolerances (earlier_point r j) (earlier_point before j))

-- of each kind the largest change of an axis at a point
unfoldable pub largest_move : Round → Round → Kind → ℕ
largest_move r before kind = largest_below r.points (λ j. point_change (earlier_point r j) (earlier_point before j) kind)
