-- How large a difference is: p doublings of 2^28, which is at most 2^37.
use Prim.Native.Nat.{◌+◌, ◌^◌, ◌≤◌}
use native.Mathlib.Nat.{pow-le-pow_right}
use native.Mathlib.Omega.{arith}
use lib.IntN.{nat_abs}
use Rattle.integers.specs.Differences.{at, in_front}
use Rattle.ticks.specs.declared.Sample.{Sample}
use Rattle.ticks.specs.Samples.{whole_of}
use Rattle.ticks.proofs.Faults.{whole-within}
use Rattle.session.specs.declared.Session.{Session}
use Rattle.session.specs.Coordinates.{Coordinate, on_x, on_y, on_z, axis_of, ticks_on}
use Rattle.demands.specs.Records.{AwaitingRecord}
use Rattle.demands.proofs.Fields.{size-from}
use Rattle.reasons.specs.Differences.{difference_on}
use Rattle.reasons.proofs.Backward.{at-most-front, difference-size}

new-size : (a : Sample) (k : Coordinate) → nat_abs (ticks_on k (whole_of a)) ≤ 2 ^ 28
new-size a on_x = (whole-within a).on-x
new-size a on_y = (whole-within a).on-y
new-size a on_z = (whole-within a).on-z

pub size : (s : Session) (a : Sample) → AwaitingRecord s → (k : Coordinate) → nat_abs (difference_on k s (whole_of a)) ≤ 2 ^ 37
unfolding difference_on
size s a held k =
    let w = ticks_on k (whole_of a) in
    let x = at (axis_of k s).samples in
    let h = difference-size s.points 0 (in_front w x) (at-most-front w x (new-size a k) (λ i. size-from (x i) (held.filled.samples k i))) in
    let l : 2 ^ (28 + (0 + s.points)) ≤ 2 ^ 37 = pow-le-pow_right {n = 2} (omega arith) {i = 28 + (0 + s.points)} {j = 37} (omega (arith, held.filled.points.1)) in
    omega (arith, h, l)
