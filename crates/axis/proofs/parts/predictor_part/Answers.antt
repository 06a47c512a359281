-- `axis::parts::predictor_part` meets its contract: the sums of its two formulas.
use borrow.Author.Rules.{rules}
use Rattle.axis.specs.Parts.{predictor_part}
use Rattle.axis.proofs.parts.predictor_part.Goals as goal

pub returns : goal.returns
unfolding predictor_part
returns c = search rules
