-- `Exact::at_most` meets its contract: the derived order is that of the numerators.
use Rattle.std.proofs.Common.{◌∙◌}
use Rattle.exact.proofs.Order.{at_most-exact}
use Rattle.exact.proofs.Exact.at_most.Goals as goal

pub returns : goal.returns
returns c = c.le.ensures ∙ at_most-exact c.args.self c.args.other c.requires.0 c.requires.1
