-- The held sum of the older samples: by kind, how large it is, and that a corrected value is made of a sum, the held one and the point's own sample.
use mathlib.Core.Path.{◌≡◌, refl, sym, ap, subst, ◌∙◌}
use mathlib.Core.Bool.{true}
use mathlib.Core.List.{List}
use Prim.Native.Nat.{ℕ, ◌^◌, ◌≤◌, zero-le}
use lib.IntN.{ℤ, pos, ◌+ℤ◌, +ℤ_assoc}
use Rattle.integers.specs.Differences.{at, in_front, by_differences}
use Rattle.exact.specs.declared.Exact.{Exact}
use Rattle.exact.specs.Numerator.{exact_of, numerator, Bounded}
use Rattle.exact.proofs.Laws.{made}
use Rattle.exact.proofs.Bounds.{split-bounded}
use Rattle.coefficients.specs.declared.Formula.{Formula}
use Rattle.coefficients.specs.declared.Formula.TheVariants.{PositionCorrector, VelocityCorrector}
use Rattle.coefficients.specs.Formulas.{weights_of, older_part, own_part, Small}
use Rattle.coefficients.proofs.Samples.{in-front}
use Rattle.coefficients.proofs.Bounds.{weighted-fits}
use Rattle.coefficients.proofs.Next.{next-law}
use Rattle.axis.specs.declared.Axis.{Axis}
use Rattle.axis.specs.Kinds.{Kind, of_position, of_velocity, value_of}
use Rattle.axis.specs.Formulas.{motion_of, older_motion}
use Rattle.axis.specs.Estimates.{same_motion}
use Rattle.axis.specs.Holding.{older_holds}
use Rattle.axis.specs.Ready.{Held}
use Rattle.axis.proofs.Agreement.{motions-same, motions-refl}

-- the formula that corrects a kind
abbrev pub corrector_of : Kind → Formula
corrector_of of_position = PositionCorrector
corrector_of of_velocity = VelocityCorrector

-- ---- the test says that it is true

module _ (p : ℕ) (a : Axis) where
  pub held-true : older_holds p a ≡ true → Held p a
  unfolding older_holds
  held-true t = record { older = motions-same a.older (older_motion p a.samples) t }

  pub true-held : Held p a → older_holds p a ≡ true
  unfolding older_holds
  true-held h = ap (λ m. same_motion m (older_motion p a.samples)) h.older ∙ motions-refl (older_motion p a.samples)

-- ---- one kind of it

pub older-value : (p : ℕ) (xs : List ℤ) (kind : Kind) → value_of kind (older_motion p xs) ≡ exact_of (older_part (corrector_of kind) p (at xs))
unfolding older_motion motion_of
older-value p xs of_position = refl
older-value p xs of_velocity = refl

module _ (p : ℕ) (a : Axis) (h : Held p a) (kind : Kind) where
  pub held-value : value_of kind a.older ≡ exact_of (older_part (corrector_of kind) p (at a.samples))
  held-value = ap (value_of kind) h.older ∙ older-value p a.samples kind

  pub held-bounded : (1 ≤ p) × (p ≤ 9) → Small a.samples → Bounded (2 ^ 36) (value_of kind a.older)
  unfolding older_part
  held-bounded some small =
      subst (Bounded (2 ^ 36)) (sym held-value)
      (split-bounded _ (weighted-fits (corrector_of kind) p some (in_front (pos 0) (at a.samples)) (in-front (pos 0) a.samples zero-le small)))

-- ---- what it is for

pub corrected-sum : (f : Formula) (p : ℕ) (s sample : ℤ) (xs : List ℤ) {older : Exact} → older ≡ exact_of (older_part f p (at xs))
    → s +ℤ numerator older +ℤ own_part f p sample ≡ s +ℤ by_differences (weights_of f p) (in_front sample (at xs))
corrected-sum f p s sample xs e =
    ap (λ z. s +ℤ z +ℤ own_part f p sample) (made _ e)
    ∙ +ℤ_assoc s (older_part f p (at xs)) (own_part f p sample)
    ∙ ap (λ z. s +ℤ z) (next-law f p (at xs) sample)
