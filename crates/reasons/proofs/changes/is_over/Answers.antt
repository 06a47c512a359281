-- `reasons::changes::is_over` meets its contract: the change is above the tolerance, or below its negative.
-- ---- the tolerance and its negative, as the machine has them
-- ---- the two tests of a change, and its size
use mathlib.Core.Path.{◌≡◌, sym, ap, ◌∙◌}
use mathlib.Core.Bool.{true, false, not}
use Prim.Native.Nat.{ℕ, ◌*◌, ◌≤◌}
use native.Mathlib.Omega.{arith}
use borrow.Author.Tests.{leb-true, le-leb, lt-leb}
use lib.Dec.{leb}
use lib.IntN.{ℤ, pos, neg_ℤ, nat_abs, ◌-ℤ◌, +ℤ_idl}
use lib.Signed.{le_z}
use mir.Syntax.{w64}
use mir.Val.{to_z, of_z, SFits}
use mir.ValLaws.{to_z_pos, to_z-of_z}
use Rattle.integers.specs.Size.{nat_abs-negℤ, sfits-of-size}
use Rattle.integers.specs.Parts.{integers, nat_abs-parts, one-part, neg-parts}
use Rattle.integers.specs.Ring.{negℤ-*ℤ-left}
use Rattle.integers.specs.Tests.{agree}
use Rattle.exact.specs.declared.Exact.{Exact}
use Rattle.exact.specs.Numerator.{D, numerator, wholly}
use Rattle.exact.proofs.Laws.{numerator-wholly}
use Rattle.reasons.proofs.changes.is_over.Goals as goal
use Rattle.reasons.proofs.changes.is_over.Goals.{then-at_most, else-at_most}

module _ (t : ℕ) (h : t ≤ 1048576) where
  cast : to_z w64 t ≡ pos t
  cast = to_z_pos w64 t (omega arith)

  less : pos 0 -ℤ to_z w64 t ≡ neg_ℤ (pos t)
  less = ap (λ (z : ℤ). pos 0 -ℤ z) cast ∙ +ℤ_idl (neg_ℤ (pos t))

  neg-fits : SFits w64 (neg_ℤ (pos t))
  neg-fits = sfits-of-size (rw (nat_abs-negℤ (pos t)) (omega arith))

  fits : SFits w64 (pos 0 -ℤ to_z w64 t)
  fits = rw less neg-fits

  most : {e : Exact} → e ≡ wholly (to_z w64 t) → numerator e ≡ pos (t * D)
  most e = ap numerator (e ∙ ap wholly cast) ∙ numerator-wholly (pos t)

  least : {e : Exact} → e ≡ wholly (to_z w64 (of_z w64 (pos 0 -ℤ to_z w64 t))) → numerator e ≡ neg_ℤ (pos (t * D))
  least e =
      ap numerator (e ∙ ap wholly (ap (λ z. to_z w64 (of_z w64 z)) less ∙ to_z-of_z w64 (neg_ℤ (pos t)) neg-fits))
      ∙ numerator-wholly (neg_ℤ (pos t))
      ∙ negℤ-*ℤ-left (pos t) (pos D)

module _ (z : ℤ) (b : ℕ) where
  above : le_z z (pos b) ≡ false → true ≡ not (leb (nat_abs z) b)
  above h = sym (ap not (lt-leb (nat_abs z) b (omega (integers, nat_abs-parts z, one-part z))))

  not-above : le_z z (pos b) ≡ true → le_z (neg_ℤ (pos b)) z ≡ leb (nat_abs z) b
  not-above h =
      agree _ _
      (λ e. le-leb (nat_abs z) b (omega (integers, nat_abs-parts z, one-part z, neg-parts (pos b))))
      (λ e. omega (integers, leb-true (nat_abs z) b e, nat_abs-parts z, one-part z, neg-parts (pos b)))

pub overflow_sub-most : goal.overflow_sub-most
overflow_sub-most c = fits c.args.tolerance c.requires.tolerance_bound

pub returns : goal.returns
returns c =
    let z = numerator c.args.change in
    let t = c.args.tolerance in
    let told = c.at_most.ensures ∙ ap (le_z z) (most t c.requires.tolerance_bound c.of_whole.ensures) in
    elim c.if-at_most.branch [
      | then-at_most w ↦ ap not (w.result-is ∙ w.at_most-then-at_most.ensures ∙ ap (λ y. le_z y z) (least t c.requires.tolerance_bound w.of_whole-then-at_most.ensures) ∙ not-above z (t * D) (sym told ∙ w.if-at_most.true))
      | else-at_most w ↦ ap not (w.result-is ∙ w.if-at_most.false) ∙ above z (t * D) (sym told ∙ w.if-at_most.false)
    ]
