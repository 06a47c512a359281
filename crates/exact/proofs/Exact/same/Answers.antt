-- `Exact::same` meets its contract: the derived equality compares both fields.
use Rattle.std.proofs.Common.{◌∙◌}
use Rattle.exact.proofs.Order.{same-exact}
use Rattle.exact.proofs.Exact.same.Goals as goal

pub returns : goal.returns
returns c = c.eq.ensures ∙ same-exact c.args.self c.args.other
