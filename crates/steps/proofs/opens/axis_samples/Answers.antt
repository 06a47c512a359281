-- `steps::opens::axis_samples` meets its contract: each turn fills one place more.
use mathlib.Core.Path.{◌≡◌, sym, ap, ◌∙◌}
use native.Mathlib.Numerals.{add-one}
use native.Mathlib.Omega.{arith}
use borrow.Author.Rules.{sfits_of}
use lib.ListN.{length, set}
use mir.Facts.{to_z-of_z}
use mir.Syntax.{w64}
use Rattle.integers.specs.Differences.{at}
use Rattle.ticks.specs.Round.{ticks_in}
use Rattle.axis.specs.Formulas.{places}
use Rattle.axis.proofs.Places.{placed-next}
use Rattle.steps.specs.Opening.{axis_samples}
use Rattle.steps.proofs.Given.{length-samples, at-samples}
use Rattle.steps.proofs.opens.axis_samples.Goals as goal

pub loop-i-preserved : goal.loop-i-preserved
loop-i-preserved c =
    let l = c.loop-i in
    let a = c.args in
    let i = l.i in
    let ys = axis_samples a.p a.k a.floats.now in
    let n : length ys ≡ a.p = length-samples a.p a.k a.floats.now in
    let v = to_z-of_z {w = w64} (sfits_of c.ticks_in.type_inv) ∙ c.ticks_in.ensures ∙ ap ticks_in c.round_to_tick.ensures ∙ sym (at-samples a.p a.k i a.floats.now _ (omega arith) (omega arith)) in
    ap (set l.out i) v
    ∙ ap (λ out. set out i (at ys i)) l.invariant
    ∙ placed-next i ys (omega arith) (omega arith)
    ∙ ap (λ n. places n ys) (sym (add-one i))
