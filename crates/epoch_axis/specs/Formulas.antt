-- One axis that is started from an epoch in its middle. Its samples are a(0), a(1), .., counted in steps before the newest point. Definitions only.
use Rattle.std.specs.Prelude.{ℕ, zero, suc, ◌-◌, ◌/◌, List, ℤ, ◌+ℤ◌, ◌-ℤ◌}
use Rattle.integers.specs.Differences.{at, by_differences}
use Rattle.exact.specs.Numerator.{exact_of, numerator}
use Rattle.epoch_coefficients.specs.Formulas.{earlier_position, earlier_velocity}
use Rattle.axis.specs.declared.Motion.{Motion}
use Rattle.axis.specs.declared.Axis.{Axis}
use Rattle.axis.specs.Formulas.{S1, S2, ticks, axis_with, motion_of, still, older_motion}
use Rattle.epoch_axis.specs.declared.Sums.{Sums}

-- ---- S1 at a point and S2 at the point before it, run by their own rules

-- one step on, with the next point's sample: S2(n) = S2(n-1) + S1(n), S1(n+1) = S1(n) + a(n+1)
unfoldable pub next_sums : Sums → ℤ → Sums
next_sums s sample =
    record { first = exact_of (numerator s.first +ℤ ticks sample); before = exact_of (numerator s.before +ℤ numerator s.first) }

-- one step back, with the sample of the point that is left: S1(n-1) = S1(n) - a(n), S2(n-2) = S2(n-1) - S1(n-1)
unfoldable pub back_sums : Sums → ℤ → Sums
back_sums s sample =
    let first = numerator s.first -ℤ ticks sample in
    record { first = exact_of first; before = exact_of (numerator s.before -ℤ first) }

-- from j steps before the newest point on to it
unfoldable pub run_on : (ℕ → ℤ) → ℕ → Sums → Sums
run_on a zero s = s
run_on a (suc j) s = run_on a j (next_sums s (a j))

-- from the newest point back by j steps
unfoldable pub run_back : (ℕ → ℤ) → ℕ → Sums → Sums
run_back a zero s = s
run_back a (suc j) s = back_sums (run_back a j s) (a j)

-- ---- the point j steps before the newest, of an axis whose sums are those of the newest point

unfoldable pub newest_sums : Axis → Sums
newest_sums a = record { first = a.first; before = exact_of (S2 a -ℤ S1 a) }

-- the velocity adds its series to S1 of the point j steps back, the position its own to S2 of the point before that one
unfoldable pub earlier_motion : ℕ → Axis → ℕ → Motion
earlier_motion p a j =
    let s = run_back (at a.samples) j (newest_sums a) in
    motion_of
    (numerator s.before +ℤ by_differences (earlier_position j p) (at a.samples))
    (numerator s.first +ℤ by_differences (earlier_velocity j p) (at a.samples))

-- ---- the sums that the epoch fixes

-- the centre's steps before the newest point
abbrev pub centre : ℕ → ℕ
centre p = (p - 1) / 2

-- at the centre: what the series leave of the epoch's velocity and position
unfoldable pub centre_sums : ℕ → Motion → List ℤ → Sums
centre_sums p epoch xs =
    record {
      first = exact_of (numerator epoch.velocity -ℤ by_differences (earlier_velocity (centre p) p) (at xs));
      before = exact_of (numerator epoch.position -ℤ by_differences (earlier_position (centre p) p) (at xs));
    }

-- the axis at the newest point
unfoldable pub started_axis : ℕ → Motion → List ℤ → Axis
started_axis p epoch xs =
    let s = run_on (at xs) (centre p) (centre_sums p epoch xs) in
    axis_with s.first (exact_of (numerator s.before +ℤ numerator s.first)) (older_motion p xs) xs still
