-- The parts that samples give: one value of each, how large it is, and a sum that takes it in.
use mathlib.Core.Path.{◌≡◌, ap, ◌∙◌}
use mathlib.Core.List.{List}
use Prim.Native.Nat.{ℕ, ◌^◌, ◌≤◌}
use lib.IntN.{ℤ, ◌+ℤ◌}
use Rattle.integers.specs.Differences.{at, by_differences}
use Rattle.exact.specs.declared.Exact.{Exact}
use Rattle.exact.specs.Numerator.{exact_of, numerator, Bounded}
use Rattle.exact.proofs.Laws.{made}
use Rattle.exact.proofs.Bounds.{widen, split-bounded}
use Rattle.coefficients.specs.declared.Formula.{Formula}
use Rattle.coefficients.specs.Formulas.{weights_of, Small}
use Rattle.coefficients.proofs.Bounds.{weighted-fits}
use Rattle.axis.specs.declared.Motion.{Motion}
use Rattle.axis.specs.Formulas.{motion_of}

module _ {m : Motion} (y z : ℤ) (e : m ≡ motion_of y z) where
  pub position-is : m.position ≡ exact_of y
  unfolding motion_of
  position-is = ap (λ n. n.position) e

  pub velocity-is : m.velocity ≡ exact_of z
  unfolding motion_of
  velocity-is = ap (λ n. n.velocity) e

pub part-bounded : (f : Formula) (p : ℕ) (xs : List ℤ) {e : Exact} → (1 ≤ p) × (p ≤ 9) → Small xs → e ≡ exact_of (by_differences (weights_of f p) (at xs)) → Bounded (2 ^ 62) e
part-bounded f p xs some small is = rw is (widen (2 ^ 62) (split-bounded _ (weighted-fits f p some (at xs) small.small)) tt)

pub sum_is : (e : Exact) (z : ℤ) {part r : Exact} → part ≡ exact_of z → r ≡ exact_of (numerator e +ℤ numerator part) → r ≡ exact_of (numerator e +ℤ z)
sum_is e z is p = p ∙ ap (λ y. exact_of (numerator e +ℤ y)) (made _ is)
