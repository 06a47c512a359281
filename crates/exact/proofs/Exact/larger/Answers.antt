-- `Exact::larger` meets its contract: the derived order is that of the numerators.
use Rattle.std.proofs.Common.{◌∙◌}
use Rattle.exact.proofs.Order.{larger-exact}
use Rattle.exact.proofs.Exact.larger.Goals as goal

pub returns : goal.returns
returns c = c.max.ensures ∙ larger-exact c.args.self c.args.other c.requires.0 c.requires.1
