-- `axis::parts::corrector_part` meets its contract: the sums of its two formulas.
use borrow.Author.Rules.{rules}
use Rattle.axis.specs.Parts.{corrector_part}
use Rattle.axis.proofs.parts.corrector_part.Goals as goal

pub returns : goal.returns
unfolding corrector_part
returns c = search rules
