-- `coefficients::own_part` meets its contract: the first weight is light enough for the product to fit.
use mathlib.Core.Path.{◌≡◌}
use mathlib.Core.List.{List}
use Prim.Native.Nat.{ℕ, ◌≤◌}
use native.Mathlib.Nat.{lt_of_le_of_lt}
use native.Mathlib.Omega.{arith}
use lib.IntN.{ℤ, nat_abs, ◌*ℤ◌}
use mir.Syntax.{w64}
use mir.Val.{SFits}
use mir.Facts.{to_z-of_z}
use Rattle.integers.specs.Differences.{at}
use Rattle.integers.proofs.Differences.{size-at, size-of-product}
use Rattle.integers.specs.Size.{sfits-of-size}
use Rattle.coefficients.specs.Formulas.{row, weights_of, own_part, largest}
use Rattle.coefficients.specs.declared.Formula.{Formula}
use Rattle.coefficients.proofs.Bounds.{bounded, below}
use Rattle.coefficients.proofs.own_part.Goals as goal

record Made (w a part : ℤ) : Type 0 where
  weight : SFits w64 w
  product : SFits w64 (w *ℤ a)
  is : w *ℤ a ≡ part

made : (f : Formula) (p : ℕ) (a : ℤ) (ws : List ℤ) → (1 ≤ p) × (p ≤ 9) → nat_abs a ≤ largest → ws ≡ row (weights_of f) p → Made (at ws 0) a (own_part f p a)
unfolding own_part
made f p a ws h small e =
    let b = rw (← e) at (bounded f p h) in
    record {
      weight = sfits-of-size (omega (arith, size-at ws 0));
      product = sfits-of-size (lt_of_le_of_lt (size-of-product (at ws 0) a small) (below (nat_abs (at ws 0)) (omega (arith, size-at ws 0))));
      is = rw e;
    }

pub overflow_mul-result : goal.overflow_mul-result
overflow_mul-result c =
    let a = c.args in
    let m : Made (at c.weights.result 0) a.sample (own_part a.which a.p a.sample) = made a.which a.p a.sample _ c.requires.le_p c.requires.sample_bound c.weights.ensures in
    rw (to_z-of_z m.weight, to_z-of_z c.ranges.sample) m.product

pub returns : goal.returns
returns c =
    let a = c.args in
    let m : Made (at c.weights.result 0) a.sample (own_part a.which a.p a.sample) = made a.which a.p a.sample _ c.requires.le_p c.requires.sample_bound c.weights.ensures in
    simp (to_z-of_z m.weight, to_z-of_z c.ranges.sample, to_z-of_z m.product) m.is
