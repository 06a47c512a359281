-- Sums that are run on come back to what they were, so the centre's point is the epoch; and the newest point is the one at which the axis stands.
use mathlib.Core.Path.{◌≡◌, refl, ap, ap₂, ◌∙◌}
use mathlib.Core.Bool.{true}
use mathlib.Core.List.{List}
use Prim.Native.Nat.{ℕ, zero, suc, ◌<◌}
use lib.IntN.{ℤ, ◌+ℤ◌, ◌-ℤ◌}
use Rattle.integers.specs.Differences.{at, by_differences}
use Rattle.exact.specs.Numerator.{D, exact_of, numerator}
use Rattle.exact.proofs.Laws.{part-below, numerator-exact_of, exact_of-numerator}
use Rattle.epoch_coefficients.specs.Formulas.{cut, earlier_position, earlier_velocity}
use Rattle.axis.specs.declared.Motion.{Motion}
use Rattle.axis.specs.declared.Axis.{Axis}
use Rattle.axis.specs.Formulas.{S1, S2, ticks, motion_of, present_motion}
use Rattle.axis.specs.Estimates.{in_range}
use Rattle.axis.specs.Ready.{Placed}
use Rattle.axis.proofs.Sound.{placed-motion}
use Rattle.axis.proofs.Points.{back, forth, as-given}
use Rattle.epoch_axis.specs.declared.Sums.{Sums}
use Rattle.epoch_axis.specs.Formulas.{next_sums, back_sums, run_on, run_back, newest_sums, earlier_motion, centre, centre_sums, started_axis}

-- both sums are exact values
pub record Exactly (s : Sums) : Type 0 where
  pub first : s.first.part < D
  pub before : s.before.part < D

next-exactly : (s : Sums) (a : ℤ) → Exactly (next_sums s a)
unfolding next_sums
next-exactly s a = record { first = part-below _; before = part-below _ }

centre-exactly : (p : ℕ) (epoch : Motion) (xs : List ℤ) → Exactly (centre_sums p epoch xs)
unfolding centre_sums
centre-exactly p epoch xs = record { first = part-below _; before = part-below _ }

run-on-exactly : (a : ℕ → ℤ) (j : ℕ) (s : Sums) → Exactly s → Exactly (run_on a j s)
unfolding run_on
run-on-exactly a zero s e = e
run-on-exactly a (suc j) s e = run-on-exactly a j (next_sums s (a j)) (next-exactly s (a j))

-- ---- on and back

same-sums : (s : Sums) → Exactly s → {f b : ℤ} → f ≡ numerator s.first → b ≡ numerator s.before → record { first = exact_of f; before = exact_of b } ≡ s
same-sums s e p q = λ i. record { first = (ap exact_of p ∙ exact_of-numerator s.first e.first) i; before = (ap exact_of q ∙ exact_of-numerator s.before e.before) i }

back-next : (s : Sums) (a : ℤ) → Exactly s → back_sums (next_sums s a) a ≡ s
unfolding back_sums next_sums
back-next s a e =
    let first : numerator (exact_of (numerator s.first +ℤ ticks a)) -ℤ ticks a ≡ numerator s.first = ap (λ z. z -ℤ ticks a) (numerator-exact_of _) ∙ back (numerator s.first) (ticks a) in
    same-sums s e first (ap₂ (λ y z. y -ℤ z) (numerator-exact_of (numerator s.before +ℤ numerator s.first)) first ∙ back (numerator s.before) (numerator s.first))

pub back_on : (a : ℕ → ℤ) (j : ℕ) (s : Sums) → Exactly s → run_back a j (run_on a j s) ≡ s
unfolding run_on run_back
back_on a zero s e = refl
back_on a (suc j) s e = ap (λ t. back_sums t (a j)) (back_on a j (next_sums s (a j)) (next-exactly s (a j))) ∙ back-next s (a j) e

-- ---- the axis that an epoch starts

newest-started : (p : ℕ) (epoch : Motion) (xs : List ℤ) → newest_sums (started_axis p epoch xs) ≡ run_on (at xs) (centre p) (centre_sums p epoch xs)
unfolding newest_sums started_axis
newest-started p epoch xs =
    let s = run_on (at xs) (centre p) (centre_sums p epoch xs) in
    let b = numerator s.before in
    let f = numerator s.first in
    λ i. record { first = s.first; before = (ap exact_of (ap (λ z. z -ℤ f) (numerator-exact_of (b +ℤ f)) ∙ back b f) ∙ exact_of-numerator s.before (run-on-exactly (at xs) (centre p) (centre_sums p epoch xs) (centre-exactly p epoch xs)).before) i }

centre-again : (p : ℕ) (epoch : Motion) (xs : List ℤ) → run_back (at xs) (centre p) (newest_sums (started_axis p epoch xs)) ≡ centre_sums p epoch xs
centre-again p epoch xs = ap (run_back (at xs) (centre p)) (newest-started p epoch xs) ∙ back_on (at xs) (centre p) (centre_sums p epoch xs) (centre-exactly p epoch xs)

-- the centre's point is the epoch
pub epoch-kept : (p : ℕ) (epoch : Motion) (xs : List ℤ) → epoch.position.part < D → epoch.velocity.part < D → earlier_motion p (started_axis p epoch xs) (centre p) ≡ epoch
unfolding earlier_motion centre_sums started_axis
epoch-kept p epoch xs h k =
    let x = by_differences (earlier_position (centre p) p) (at xs) in
    let v = by_differences (earlier_velocity (centre p) p) (at xs) in
    ap (λ s. motion_of (numerator s.before +ℤ x) (numerator s.first +ℤ v)) (centre-again p epoch xs)
    ∙ ap₂ motion_of
    (ap (λ z. z +ℤ x) (numerator-exact_of (numerator epoch.position -ℤ x)) ∙ forth (numerator epoch.position) x)
    (ap (λ z. z +ℤ v) (numerator-exact_of (numerator epoch.velocity -ℤ v)) ∙ forth (numerator epoch.velocity) v)
    ∙ as-given epoch h k

-- the newest point is the present one
pub newest : (p : ℕ) (a : Axis) → earlier_motion p a 0 ≡ present_motion p a
unfolding earlier_motion present_motion run_back newest_sums earlier_position earlier_velocity cut
newest p a = ap (λ z. motion_of (z +ℤ by_differences (earlier_position 0 p) (at a.samples)) (S1 a +ℤ by_differences (earlier_velocity 0 p) (at a.samples))) (numerator-exact_of (S2 a -ℤ S1 a))

pub earlier-placed : (p : ℕ) (a : Axis) (j : ℕ) → in_range (earlier_motion p a j) ≡ true → Placed (earlier_motion p a j)
unfolding earlier_motion
earlier-placed p a j t = placed-motion _ _ t
