-- `axis::parts::older_by` meets its contract: the older parts of the two correctors.
use mathlib.Core.Path.{◌∙◌, ap}
use borrow.Author.Rules.{sfits_of}
use mir.Facts.{to_z-of_z}
use Rattle.exact.specs.Numerator.{exact_of}
use Rattle.axis.specs.Formulas.{older_motion}
use Rattle.axis.proofs.Sums.{motion-is}
use mir.Syntax.{w64}
use Rattle.axis.proofs.parts.older_by.Goals as goal

pub returns : goal.returns
unfolding older_motion
returns c =
    motion-is _ _
    (c.split-position.ensures ∙ ap exact_of (to_z-of_z {w = w64} (sfits_of c.older_part.type_inv) ∙ c.older_part.ensures))
    (c.split-velocity.ensures ∙ ap exact_of (to_z-of_z {w = w64} (sfits_of c.older_part-2.type_inv) ∙ c.older_part-2.ensures))
