-- `sentences::decimals::size_of` meets its contract: by the part, and by the side of 0.
use mathlib.Core.Path.{◌≡◌, ◌∙◌, ap}
use Prim.Native.Nat.{◌-◌}
use native.Mathlib.Omega.{arith}
use borrow.Author.Rules.{rules}
use lib.IntN.{nat_abs}
use mir.Syntax.{w64}
use mir.Val.{SFits}
use mir.Facts.{to_z-of_z}
use Rattle.exact.specs.Numerator.{D}
use Rattle.sentences.proofs.Sizes.{sized, no_part, from-below, from-above, below-zero}
use Rattle.sentences.proofs.decimals.size_of.Goals as goal

pub returns-then-part-eq0 : goal.returns-then-part-eq0
returns-then-part-eq0 c =
    let fits : SFits w64 c.args.e.whole = search rules in
    ap (λ n. sized n 0) (c.size-whole.ensures ∙ ap nat_abs (to_z-of_z {w = w64} fits)) ∙ no_part c.args.e c.requires c.if-part-eq0.true

pub overflow_sub-result : goal.overflow_sub-result
overflow_sub-result c =
    let fits : SFits w64 c.args.e.whole = search rules in
    let w : c.size-whole.result ≡ nat_abs c.args.e.whole = c.size-whole.ensures ∙ ap nat_abs (to_z-of_z {w = w64} fits) in
    omega (arith, w, below-zero c.args.e (rw (to_z-of_z {w = w64} fits) at c.if-e-lt0.true))

pub returns-then-e-lt0 : goal.returns-then-e-lt0
returns-then-e-lt0 c =
    let e = c.args.e in
    let fits : SFits w64 e.whole = search rules in
    ap (λ n. sized (n - 1) (D - e.part)) (c.size-whole.ensures ∙ ap nat_abs (to_z-of_z {w = w64} fits))
    ∙ from-below e c.requires c.if-part-eq0.false (rw (to_z-of_z {w = w64} fits) at c.if-e-lt0.true)

pub returns : goal.returns
returns c =
    let e = c.args.e in
    let fits : SFits w64 e.whole = search rules in
    ap (λ n. sized n e.part) (c.size-whole.ensures ∙ ap nat_abs (to_z-of_z {w = w64} fits))
    ∙ from-above e c.requires (rw (to_z-of_z {w = w64} fits) at c.if-e-lt0.false)
