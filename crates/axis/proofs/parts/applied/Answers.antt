-- `axis::parts::applied` meets its contract: the sums of the two formulas.
use mathlib.Core.Path.{◌∙◌, ap}
use borrow.Author.Rules.{sfits_of}
use mir.Facts.{to_z-of_z}
use mir.Syntax.{w64}
use Rattle.exact.specs.Numerator.{exact_of}
use Rattle.axis.proofs.Sums.{motion-is}
use Rattle.axis.proofs.parts.applied.Goals as goal

pub returns : goal.returns
returns c =
    motion-is _ _
    (c.split-position.ensures ∙ ap exact_of (to_z-of_z {w = w64} (sfits_of c.apply.type_inv) ∙ c.apply.ensures))
    (c.split-velocity.ensures ∙ ap exact_of (to_z-of_z {w = w64} (sfits_of c.apply-2.type_inv) ∙ c.apply-2.ensures))
