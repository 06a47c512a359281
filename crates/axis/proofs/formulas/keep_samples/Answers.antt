-- `axis::formulas::keep_samples` meets its contract: after i turns the first i places are filled.
use mathlib.Core.Path.{◌≡◌, refl, sym, ap, ◌∙◌}
use mathlib.Core.List.{◌∷◌}
use Prim.Native.Nat.{◌-◌}
use native.Mathlib.Numerals.{add-one}
use native.Mathlib.Omega.{arith}
use borrow.Author.Rules.{rules}
use lib.IntN.{pos}
use lib.ListN.{length, get_or, set}
use mir.Syntax.{w64}
use mir.Val.{to_z, of_z, SFits}
use mir.Facts.{to_z-of_z}
use Rattle.axis.specs.Formulas.{places, kept_samples}
use Rattle.axis.proofs.Places.{placed-next, at-behind}
use Rattle.axis.proofs.formulas.keep_samples.Goals as goal

pub loop-i-preserved : goal.loop-i-preserved
loop-i-preserved c =
    let l = c.loop-i in
    let xs = c.args.samples in
    let i = l.i in
    let e : length xs ≡ 9 = search rules in
    let f : SFits w64 (get_or xs (i - 1) (pos 0)) = search rules in
    let y = to_z w64 (of_z w64 c.args.sample) in
    ap (set l.out i) (to_z-of_z {w = w64} f ∙ sym (at-behind y xs i (omega arith)))
    ∙ ap (λ out. set out i (get_or (y ∷ xs) i (pos 0))) l.invariant
    ∙ placed-next i (y ∷ xs) (omega arith) (omega arith)
    ∙ ap (λ n. places n (y ∷ xs)) (sym (add-one i))

pub returns : goal.returns
unfolding kept_samples
returns c =
    let e : c.loop-i.i ≡ c.args.p = omega arith in
    c.loop-i.invariant ∙ rw (to_z-of_z {w = w64} c.ranges.sample, e) refl
