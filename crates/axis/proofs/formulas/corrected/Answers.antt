-- `axis::formulas::corrected` meets its contract: the held value is added, and then the sample's own part.
use mathlib.Core.Path.{◌∙◌, ap}
use Prim.Native.Nat.{◌^◌}
use borrow.Author.Rules.{sfits_of}
use lib.IntN.{◌+ℤ◌}
use mir.Facts.{to_z-of_z}
use Rattle.exact.specs.Numerator.{exact_of}
use Rattle.exact.proofs.Laws.{made}
use Rattle.exact.proofs.Bounds.{widen, sum-within}
use Rattle.coefficients.specs.Formulas.{own_part}
use Rattle.axis.proofs.Sums.{moved-is}
use mir.Syntax.{w64}
use Rattle.axis.proofs.formulas.corrected.Goals as goal

pub moved-requires : goal.moved-requires
moved-requires c =
    rw c.add-before.ensures (widen (2 ^ 61) (sum-within c.requires.bounded c.requires.bounded_2) tt)

pub returns : goal.returns
returns c =
    let own = own_part c.args.which c.args.p in
    moved-is c.add-before.result _ (sfits_of c.own_part.type_inv) (c.own_part.ensures ∙ ap own (to_z-of_z {w = w64} c.ranges.sample)) c.moved.ensures
    ∙ ap (λ s. exact_of (s +ℤ own c.args.sample)) (made _ c.add-before.ensures)
