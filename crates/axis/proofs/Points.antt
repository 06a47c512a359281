-- What the formulas say of one another: an axis that took in a sample stands at the corrected point, and an opened one at the point given.
use mathlib.Core.Path.{◌≡◌, refl, ap, ap₂, ◌∙◌}
use mathlib.Core.List.{List, ◌∷◌}
use Prim.Native.Nat.{ℕ, zero, suc, ◌-◌, ◌≤◌, ◌<◌}
use native.Mathlib.Omega.{arith}
use lib.IntN.{ℤ, ◌+ℤ◌, ◌-ℤ◌}
use Rattle.integers.specs.Tactics.{atom, terms, ring}
use Rattle.integers.specs.Differences.{at, in_front, by_differences}
use Rattle.integers.proofs.Differences.{same_first, at-taken}
use Rattle.exact.specs.Numerator.{D, numerator}
use Rattle.exact.proofs.Laws.{numerator-exact_of, exact_of-numerator}
use Rattle.coefficients.specs.declared.Formula.{Formula}
use Rattle.coefficients.specs.declared.Formula.TheVariants.{PositionCorrector, VelocityCorrector}
use Rattle.coefficients.specs.Formulas.{position_corrector, velocity_corrector, weights_of}
use Rattle.coefficients.proofs.Rows.{length-weights}
use Rattle.axis.specs.declared.Motion.{Motion}
use Rattle.axis.specs.declared.Axis.{Axis}
use Rattle.axis.specs.Formulas.{S1, S2, ticks, motion_of, places, kept_samples, present_motion, corrected_motion, advanced_axis, opened_axis}

pub back : (s f : ℤ) → s +ℤ f -ℤ f ≡ s
back s f = rw (atom 0 s, atom 1 f) (simp terms (ring _ _ refl))

pub forth : (x c : ℤ) → x -ℤ c +ℤ c ≡ x
forth x c = rw (atom 0 x, atom 1 c) (simp terms (ring _ _ refl))

-- ---- a formula over p points reads the samples that are kept

in-front : (x : ℤ) (xs : List ℤ) (k : ℕ) → at (x ∷ xs) k ≡ in_front x (at xs) k
in-front x xs zero = refl
in-front x xs (suc k) = refl

pub kept-sum : (f : Formula) (p : ℕ) → p ≤ 9 → (x : ℤ) (xs : List ℤ) → by_differences (weights_of f p) (at (kept_samples p x xs)) ≡ by_differences (weights_of f p) (in_front x (at xs))
unfolding kept_samples
kept-sum f p h x xs =
    same_first (weights_of f p) (at (places p (x ∷ xs))) (in_front x (at xs))
    (λ k l. at-taken p (9 - p) (x ∷ xs) k (omega (arith, length-weights f p h)) ∙ in-front x xs k)

-- ---- the point at which an axis stands

pub present-advanced : (p : ℕ) → p ≤ 9 → (a : Axis) (x : ℤ) → present_motion p (advanced_axis p a x) ≡ corrected_motion p a x
unfolding present_motion advanced_axis corrected_motion
present-advanced p h a x =
    let s1 = S1 a +ℤ ticks x in
    ap₂ motion_of
    (ap₂ (λ y z. y +ℤ z) (ap₂ (λ y z. y -ℤ z) (numerator-exact_of (S2 a +ℤ s1)) (numerator-exact_of s1) ∙ back (S2 a) s1) (kept-sum PositionCorrector p h x a.samples))
    (ap₂ (λ y z. y +ℤ z) (numerator-exact_of s1) (kept-sum VelocityCorrector p h x a.samples))

pub as-given : (m : Motion) → m.position.part < D → m.velocity.part < D → motion_of (numerator m.position) (numerator m.velocity) ≡ m
unfolding motion_of
as-given m h k = λ i. record { position = exact_of-numerator m.position h i; velocity = exact_of-numerator m.velocity k i }

pub present-opened : (p : ℕ) (m : Motion) (xs : List ℤ) → m.position.part < D → m.velocity.part < D → present_motion p (opened_axis p m xs) ≡ m
unfolding present_motion opened_axis
present-opened p m xs h k =
    let vc = by_differences (velocity_corrector p) (at xs) in
    let pc = by_differences (position_corrector p) (at xs) in
    let s1 = numerator m.velocity -ℤ vc in
    let s2 = numerator m.position -ℤ pc in
    ap₂ motion_of
    (ap (λ z. z +ℤ pc) (ap₂ (λ y z. y -ℤ z) (numerator-exact_of (s2 +ℤ s1)) (numerator-exact_of s1) ∙ back s2 s1) ∙ forth (numerator m.position) pc)
    (ap (λ z. z +ℤ vc) (numerator-exact_of s1) ∙ forth (numerator m.velocity) vc)
    ∙ as-given m h k
