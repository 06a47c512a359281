-- `Exact::settle` meets its contract: a rest below 0 moves both down.
use mathlib.Core.Path.{◌≡◌}
use mathlib.Core.Bool.{true, false}
use Prim.Native.Nat.{◌-◌, ◌^◌}
use lib.IntN.{ℤ, pos, nat_abs, ◌+ℤ◌, ◌-ℤ◌, ◌*ℤ◌}
use lib.Signed.{lt_z}
use mir.Syntax.{w64}
use mir.Val.{SFits}
use mir.Facts.{to_z-of_z}
use borrow.Author.Rules.{rules}
use Rattle.integers.specs.Parts.{Sized, integers, +-parts, difference-parts, multiple-parts, nat_abs-parts, one-part}
use Rattle.exact.specs.Numerator.{D, exact_of}
use Rattle.exact.proofs.Laws.{is-exact_of}
use Rattle.exact.proofs.Exact.settle.Goals as goal

module _ (q m : ℤ) (sq : Sized (2 ^ 62) q) (sm : Sized (D - 1) m) where
  lower-fits : SFits w64 (q -ℤ pos 1)
  lower-fits = omega (integers, difference-parts q (pos 1))

  raised-fits : SFits w64 (m +ℤ pos D)
  raised-fits = omega (integers, +-parts m (pos D))

  below-zero : lt_z m (pos 0) ≡ true → record { whole = q -ℤ pos 1; part = nat_abs (m +ℤ pos D) } ≡ exact_of (q *ℤ pos D +ℤ m)
  below-zero t =
      let s = +-parts m (pos D) in
      let a = nat_abs-parts (m +ℤ pos D) in
      let z = one-part (m +ℤ pos D) in
      is-exact_of (record { whole = q -ℤ pos 1; part = nat_abs (m +ℤ pos D) }) (q *ℤ pos D +ℤ m) (omega integers)
      (omega (integers, difference-parts q (pos 1), +-parts (q *ℤ pos D) m, multiple-parts q D))

  from_zero : lt_z m (pos 0) ≡ false → record { whole = q; part = nat_abs m } ≡ exact_of (q *ℤ pos D +ℤ m)
  from_zero t =
      let a = nat_abs-parts m in
      let z = one-part m in
      is-exact_of (record { whole = q; part = nat_abs m }) (q *ℤ pos D +ℤ m) (omega integers)
      (omega (integers, +-parts (q *ℤ pos D) m, multiple-parts q D))

ruleset fitting = (rules, lower-fits, raised-fits)

pub returns-then-m-lt0 : goal.returns-then-m-lt0
returns-then-m-lt0 c = let t = simp (to_z-of_z c.ranges.m) at c.if-m-lt0.true in search (fitting, below-zero)

pub returns-else-m-lt0 : goal.returns-else-m-lt0
returns-else-m-lt0 c = let t = simp (to_z-of_z c.ranges.m) at c.if-m-lt0.false in search (fitting, from_zero)
