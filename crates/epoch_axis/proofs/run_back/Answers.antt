-- `epoch_axis::run_back` meets its contract: after i turns the sums are those i steps back.
use mathlib.Core.Path.{◌≡◌, refl, sym, ap, subst, ◌∙◌}
use Prim.Native.Nat.{◌+◌, ◌^◌, ◌≤◌}
use native.Mathlib.Numerals.{add-one}
use native.Mathlib.Omega.{arith}
use borrow.Author.Rules.{rules}
use lib.IntN.{ℤ, nat_abs, ◌-ℤ◌}
use mir.Syntax.{w64}
use mir.Val.{SFits, to_z, of_z}
use mir.Facts.{to_z-of_z}
use Rattle.integers.specs.Differences.{at}
use Rattle.exact.specs.Numerator.{exact_of, numerator}
use Rattle.exact.proofs.Laws.{made}
use Rattle.exact.proofs.Bounds.{wider, lowered-bounded}
use Rattle.axis.specs.Formulas.{ticks}
use Rattle.axis.proofs.Sums.{ticks-fit, left_is}
use Rattle.epoch_axis.specs.declared.Sums.{Sums}
use Rattle.epoch_axis.specs.Formulas.{back_sums, run_back}
use Rattle.epoch_axis.proofs.Room.{Room, at_first, back-room}
use Rattle.epoch_axis.proofs.run_back.Goals as goal

pub loop-i-init : goal.loop-i-init
unfolding run_back
loop-i-init c = (at_first (2 ^ 42) (2 ^ 55) 0 c.requires.bounded c.requires.bounded_2, refl)

-- a small sample times D, as the code has it
ticked : {x : ℤ} → SFits w64 x → nat_abs x ≤ 2 ^ 28 → SFits w64 (ticks (to_z w64 (of_z w64 x)))
ticked {x} f s = rw (to_z-of_z {w = w64} f) (ticks-fit x s)

pub overflow_mul-samples : goal.overflow_mul-samples
overflow_mul-samples c =
    let f : SFits w64 (at c.args.samples c.loop-i.i) = search rules in
    ticked f (c.requires.small.small c.loop-i.i)

pub left_of-first-requires : goal.left_of-first-requires
left_of-first-requires c = wider _ (2 ^ 52) _ c.loop-i.invariant.0.first (omega arith)

pub subtract-before-requires : goal.subtract-before-requires
subtract-before-requires c =
    let x = at c.args.samples c.loop-i.i in
    let s = c.requires.small.small c.loop-i.i in
    let f : SFits w64 x = search rules in
    let e : c.left_of-first.result ≡ exact_of (numerator c.loop-i.first -ℤ ticks x) = left_is c.loop-i.first _ (ticked f s) (ap ticks (to_z-of_z {w = w64} f)) c.left_of-first.ensures in
    let r = c.loop-i.invariant.0 in
    record { bounded = wider _ (2 ^ 62) _ r.before (omega arith); bounded_2 = rw e (wider _ (2 ^ 62) _ (lowered-bounded _ (ticks x) r.first (ticks-fit x s)) (omega arith)) }

pub loop-i-preserved : goal.loop-i-preserved
unfolding back_sums run_back
loop-i-preserved c =
    let i = c.loop-i.i in
    let x = at c.args.samples i in
    let s = c.requires.small.small i in
    let f : SFits w64 x = search rules in
    let e : c.left_of-first.result ≡ exact_of (numerator c.loop-i.first -ℤ ticks x) = left_is c.loop-i.first _ (ticked f s) (ap ticks (to_z-of_z {w = w64} f)) c.left_of-first.ensures in
    let t : Sums = record { first = c.loop-i.first; before = c.loop-i.before } in
    let g : record { first = c.left_of-first.result; before = c.subtract-before.result } ≡ back_sums t x =
    λ k. record { first = e k; before = (c.subtract-before.ensures ∙ ap (λ z. exact_of (numerator c.loop-i.before -ℤ z)) (made _ e)) k } in (
      subst (λ u. Room (2 ^ 42) (2 ^ 55) (i + 1) u) (sym g) (rw (add-one i) (back-room (2 ^ 42) (2 ^ 55) i (omega arith) c.loop-i.invariant.0 x s)),
      rw (add-one i) (g ∙ ap (λ u. back_sums u x) c.loop-i.invariant.1),
    )

pub returns : goal.returns
returns c =
    let e : c.loop-i.i ≡ c.args.j = omega arith in
    c.loop-i.invariant.1 ∙ ap (λ n. run_back (at c.args.samples) n c.args.sums) e
