-- An axis that an epoch in range starts over small samples is ready, and holds where its newest point is in range.
use mathlib.Core.Path.{◌≡◌, refl, sym, ap, ◌∙◌}
use mathlib.Core.Bool.{true}
use mathlib.Core.List.{List}
use Prim.Native.Nat.{ℕ, ◌+◌, ◌*◌, ◌^◌, ◌≤◌, ◌<◌}
use native.Mathlib.Omega.{arith}
use lib.IntN.{ℤ}
use Rattle.integers.specs.Differences.{at}
use Rattle.exact.proofs.Bounds.{wider, widen, sum-within, lowered-bounded}
use Rattle.coefficients.specs.Formulas.{Small}
use Rattle.coefficients.specs.declared.Formula.TheVariants.{PositionCorrector, VelocityCorrector}
use Rattle.epoch_coefficients.specs.Formulas.{has_centre, earlier_position, earlier_velocity}
use Rattle.epoch_coefficients.proofs.Centre.{of-each, at-least-3, at-most-9}
use Rattle.epoch_coefficients.proofs.Rows.{position-light, velocity-light, fits}
use Rattle.axis.specs.declared.Motion.{Motion}
use Rattle.axis.specs.Formulas.{still}
use Rattle.axis.specs.Estimates.{in_range}
use Rattle.axis.specs.Holding.{places_hold, axis_holds}
use Rattle.axis.specs.Ready.{Ready, Placed}
use Rattle.axis.proofs.Places.{small-samples}
use Rattle.axis.proofs.Sound.{placed-in-range}
use Rattle.axis.proofs.Kept.{axis-holds, still_placed}
use Rattle.epoch_axis.specs.Formulas.{run_on, earlier_motion, centre, centre_sums, started_axis}
use Rattle.epoch_axis.proofs.Room.{Room, at_first, run-on-room}
use Rattle.epoch_axis.proofs.Kept.{newest}

-- as many points stand before the centre as after it
pub centre-amid : (p : ℕ) → has_centre p ≡ true → 2 * centre p + 1 ≡ p
centre-amid p h = of-each (λ p. 2 * centre p + 1 ≡ p) refl refl refl refl p h

pub centre-below : (p : ℕ) → has_centre p ≡ true → centre p < p
centre-below p h = omega (arith, centre-amid p h)

pub centre-near : (p : ℕ) → has_centre p ≡ true → centre p ≤ 4
centre-near p h = omega (arith, centre-amid p h, at-most-9 h)

module _ (p : ℕ) (epoch : Motion) (xs : List ℤ) (h : has_centre p ≡ true) (m : Placed epoch) (small : Small xs) where
  pub centre-room : Room (2 ^ 41) (2 ^ 53) 0 (centre_sums p epoch xs)
  unfolding centre_sums earlier_position earlier_velocity
  centre-room =
      at_first (2 ^ 41) (2 ^ 53) 0
      (widen (2 ^ 41) (lowered-bounded (2 ^ 40) _ m.velocity (fits VelocityCorrector velocity-light h (centre-below p h) (at xs) small.small)) tt)
      (widen (2 ^ 53) (lowered-bounded (2 ^ 52) _ m.position (fits PositionCorrector position-light h (centre-below p h) (at xs) small.small)) tt)

  -- at the newest point
  pub newest-room : Room (2 ^ 41) (2 ^ 53) 4 (run_on (at xs) (centre p) (centre_sums p epoch xs))
  newest-room =
      let r = run-on-room (2 ^ 41) (2 ^ 53) (at xs) small.small (centre p) 0 (omega (arith, centre-near p h)) centre-room in
      record { first = wider _ _ _ r.first (omega (arith, centre-near p h)); before = wider _ _ _ r.before (omega (arith, centre-near p h)) }

  pub started-ready : Ready p (started_axis p epoch xs)
  unfolding started_axis
  started-ready =
      let r = newest-room in
      record { some = (omega (arith, at-least-3 h), at-most-9 h); first = widen (2 ^ 42) r.first tt; second = widen (2 ^ 54) (sum-within r.before r.first) tt; small = small }

pub started-holds : (p : ℕ) (epoch : Motion) (xs : List ℤ) → has_centre p ≡ true → Placed epoch → places_hold p xs ≡ true → in_range (earlier_motion p (started_axis p epoch xs) 0) ≡ true → axis_holds p (started_axis p epoch xs) ≡ true
unfolding started_axis
started-holds p epoch xs h m x r =
    let a = started_axis p epoch xs in
    let b = started-ready p epoch xs h m (small-samples p xs x) in
    axis-holds p a (record { first = b.first.small; second = b.second.small; position = still_placed.position.small; velocity = still_placed.velocity.small })
    x (ap in_range (sym (newest p a)) ∙ r) (placed-in-range still still_placed) (record { older = refl })
