-- `reasons::newest::differences_of` meets its contract: given while no correction is counted.
use mathlib.Core.Path.{◌≡◌, sym, ap, ◌∙◌}
use mathlib.Core.Bool.{true, cond}
use Prim.Native.Nat.{◌^◌, ◌≤◌}
use borrow.Author.Tests.{eq-eqb, ne_eqb}
use borrow.Author.Rules.{sfits_of}
use native.Mathlib.Omega.{arith}
use lib.IntN.{ℤ, nat_abs}
use mir.Syntax.{w64}
use mir.Val.{to_z, of_z, SFits}
use mir.Facts.{to_z-of_z}
use Rattle.integers.specs.Size.{sfits-of-size}
use Rattle.integers.specs.Differences.{at, in_front}
use Rattle.rules.specs.Rules.{NotZero}
use Rattle.ticks.specs.declared.WholeSample.{WholeSample}
use Rattle.session.specs.declared.Session.{Session}
use Rattle.session.specs.Coordinates.{Coordinate, on_x, on_y, on_z, axis_of, ticks_on}
use Rattle.reasons.specs.Differences.{difference, no_differences, difference_on, differences_of, differences_with}
use Rattle.reasons.proofs.newest.differences_of.Goals as goal

module _ (s : Session) (w : WholeSample) where
  counted : NotZero s.corrections → no_differences ≡ differences_with 0 s w
  unfolding differences_with
  counted h = sym (ap (λ t. cond t (differences_of s w) no_differences) (ne_eqb s.corrections 0 h))

  uncounted : s.corrections ≡ 0 → differences_of s w ≡ differences_with 0 s w
  unfolding differences_with
  uncounted h = sym (ap (λ t. cond t (differences_of s w) no_differences) (eq-eqb s.corrections 0 h))

pub returns-then-s-ne0 : goal.returns-then-s-ne0
returns-then-s-ne0 c = let a = c.args in c.no_differences.ensures ∙ counted a.s a.w c.if-s-ne0.true

-- one axis: what `difference` asks, and what it gives
kept : (n : ℤ) → nat_abs n ≤ 2 ^ 28 → to_z w64 (of_z w64 n) ≡ n
kept n h = to_z-of_z {w = w64} (sfits-of-size (omega arith))

module _ (s : Session) (w : WholeSample) where
  gives : (k : Coordinate) {r : ℤ} → nat_abs (ticks_on k w) ≤ 2 ^ 28 → SFits w64 r → r ≡ difference s.points (in_front (to_z w64 (of_z w64 (ticks_on k w))) (at (axis_of k s).samples)) →
      to_z w64 (of_z w64 r) ≡ difference_on k s w
  unfolding difference_on
  gives k l f h = to_z-of_z {w = w64} f ∙ h ∙ ap (λ z. difference s.points (in_front z (at (axis_of k s).samples))) (kept (ticks_on k w) l)

pub returns : goal.returns
returns c =
    let a = c.args in
    (λ i.
    record {
      given = true;
      x = gives a.s a.w on_x c.requires.within_limit.on-x (sfits_of c.difference.type_inv) c.difference.ensures i;
      y = gives a.s a.w on_y c.requires.within_limit.on-y (sfits_of c.difference-2.type_inv) c.difference-2.ensures i;
      z = gives a.s a.w on_z c.requires.within_limit.on-z (sfits_of c.difference-3.type_inv) c.difference-3.ensures i;
    })
    ∙ uncounted a.s a.w c.if-s-ne0.false
