-- Every axis that the formulas make of one that holds, or of a point in range, holds.
use mathlib.Core.Path.{◌≡◌, refl, ap, ◌∙◌}
use mathlib.Core.Bool.{true}
use mathlib.Core.List.{List, ◌∷◌}
use Prim.Native.Nat.{ℕ, ◌≤◌}
use borrow.Author.Tests.{lt-ltb}
use lib.Dec.{lit<}
use lib.IntN.{ℤ, nat_abs}
use Rattle.integers.specs.Tests.{joined}
use Rattle.exact.specs.Numerator.{exact_of}
use Rattle.exact.proofs.Laws.{part-below}
use Rattle.coefficients.specs.Formulas.{largest}
use Rattle.coefficients.proofs.Samples.{cons}
use Rattle.axis.specs.declared.Motion.{Motion}
use Rattle.axis.specs.declared.Axis.{Axis}
use Rattle.axis.specs.Formulas.{axis_with, motion_of, still, older_motion, places, kept_samples, present_motion, corrected_motion, advanced_axis, opened_axis}
use Rattle.axis.specs.Estimates.{in_range, estimating}
use Rattle.axis.specs.Holding.{remainders_hold, places_hold, axis_holds}
use Rattle.axis.specs.Ready.{Held, Placed}
use Rattle.axis.proofs.Places.{places-hold}
use Rattle.axis.proofs.Held.{true-held}
use Rattle.axis.proofs.Sound.{placed, placed-in-range, Remainders, holding-axis, axis-held}
use Rattle.axis.proofs.Points.{present-advanced, present-opened}

remainders-hold : (a : Axis) → Remainders a → remainders_hold a ≡ true
unfolding remainders_hold
remainders-hold a r = simp joined (lt-ltb _ _ r.first, (lt-ltb _ _ r.second, (lt-ltb _ _ r.position, lt-ltb _ _ r.velocity)))

pub axis-holds : (p : ℕ) (a : Axis) → Remainders a → places_hold p a.samples ≡ true → in_range (present_motion p a) ≡ true → in_range a.estimate ≡ true → Held p a → axis_holds p a ≡ true
unfolding axis_holds
axis-holds p a r x m e h = simp joined (remainders-hold a r, (x, (m, (e, true-held p a h))))

-- ---- with another estimate

pub estimating-holds : (p : ℕ) (a : Axis) (m : Motion) → axis_holds p a ≡ true → Placed m → axis_holds p (estimating a m) ≡ true
unfolding present_motion
estimating-holds p a m t e =
    let h = holding-axis p a t in
    axis-holds p (estimating a m) (record { first = h.remainders.first; second = h.remainders.second; position = e.position.small; velocity = e.velocity.small })
    h.filled h.present-range (placed-in-range m e) (record { older = (axis-held p a t).older })

pub still_placed : Placed still
unfolding still motion_of in_range exact_of
still_placed = placed still (lit< tt) (lit< tt) refl

-- ---- sums that were worked out, with places that hold and a present point in range, and no estimate

made_holds : (p : ℕ) (m n : ℤ) (xs : List ℤ) → places_hold p xs ≡ true
    → in_range (present_motion p (axis_with (exact_of m) (exact_of n) (older_motion p xs) xs still)) ≡ true → axis_holds p (axis_with (exact_of m) (exact_of n) (older_motion p xs) xs still) ≡ true
made_holds p m n xs x r =
    axis-holds p _ (record { first = part-below m; second = part-below n; position = still_placed.position.small; velocity = still_placed.velocity.small })
    x r (placed-in-range still still_placed) (record { older = refl })

pub advanced-holds : (p : ℕ) → p ≤ 9 → (a : Axis) (x : ℤ) → axis_holds p a ≡ true → nat_abs x ≤ largest → in_range (corrected_motion p a x) ≡ true → axis_holds p (advanced_axis p a x) ≡ true
unfolding advanced_axis kept_samples
advanced-holds p h a x t l r =
    made_holds p _ _ (places p (x ∷ a.samples)) (places-hold p (x ∷ a.samples) (cons l (holding-axis p a t).small)) (ap in_range (present-advanced p h a x) ∙ r)

pub opened-holds : (p : ℕ) (m : Motion) (xs : List ℤ) → Placed m → places_hold p xs ≡ true → axis_holds p (opened_axis p m xs) ≡ true
unfolding opened_axis
opened-holds p m xs h x = made_holds p _ _ xs x (ap in_range (present-opened p m xs h.position.small h.velocity.small) ∙ placed-in-range m h)
