-- `host::samples::floats_in` meets its contract: float by float.
use mathlib.Core.Path.{◌≡◌, refl, ap, ap₂, ◌∙◌}
use mathlib.Core.List.{[], ◌∷◌, ◌++◌}
use native.Mathlib.Numerals.{add-one}
use native.Mathlib.Omega.{arith}
use lib.Ieee.{binary64, of_bits}
use lib.ListN.{length-set}
use Rattle.host.specs.Samples.{floats_in}
use Rattle.host.proofs.Floats.{stored}
use Rattle.host.proofs.samples.floats_in.Goals as goal

pub loop-i-init : goal.loop-i-init
unfolding floats_in
loop-i-init c = (refl, refl)

pub loop-i-preserved : goal.loop-i-preserved
unfolding floats_in
loop-i-preserved c =
    let l = c.loop-i in
    let v = c.float_of.ensures ∙ ap (of_bits binary64) c.word_at.ensures in (
      length-set l.out l.i _ ∙ l.invariant.0,
      rw (add-one l.i) (stored l.out l.i _ (omega arith) ∙ ap₂ (λ xs x. xs ++ (x ∷ [])) l.invariant.1 v),
    )

pub returns : goal.returns
returns c =
    let e : c.loop-i.i ≡ c.args.n = omega arith in
    rw (← e) c.loop-i.invariant.1
