-- `reasons::newest::backward` meets its contract: after i turns the places below i hold their differences.
use mathlib.Core.Path.{◌≡◌}
use Prim.Native.Nat.{◌+◌}
use native.Mathlib.Numerals.{add-one}
use native.Mathlib.Omega.{arith}
use borrow.Author.Rules.{rules}
use lib.IntN.{pos}
use lib.ListN.{length, get_or, length-set}
use mir.Syntax.{w64}
use mir.Val.{SFits}
use mir.Facts.{to_z-of_z}
use Rattle.integers.specs.Differences.{at}
use Rattle.reasons.proofs.Backward.{next, all, behind-last, back_fits}
use Rattle.reasons.proofs.newest.backward.Goals as goal

pub loop-i-preserved : goal.loop-i-preserved
loop-i-preserved c =
    let xs = c.args.xs in
    let i = c.loop-i.i in
    let f : SFits w64 (get_or xs i (pos 0)) = search rules in
    let g : SFits w64 (get_or xs (i + 1) (pos 0)) = search rules in
    let n = c.loop-i.invariant.0 in
    (simp length-set n, next c.loop-i.invariant.1 _ (omega (arith, n)) (rw (to_z-of_z {w = w64} f, to_z-of_z {w = w64} g, add-one i) (to_z-of_z {w = w64} (back_fits (at xs) i c.requires))))

pub returns : goal.returns
returns c =
    let xs = c.args.xs in
    let n : length xs ≡ 10 = search rules in
    let e : c.loop-i.i ≡ 9 = omega arith in
    all c.loop-i.invariant.1 (λ k h. behind-last xs k (omega arith))
