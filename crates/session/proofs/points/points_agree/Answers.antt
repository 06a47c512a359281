-- `session::points::points_agree` meets its contract: the three tests.
use Rattle.std.proofs.Common.{rules}
use Rattle.session.proofs.Values.{agree-by-axes}
use Rattle.session.proofs.points.points_agree.Goals as goal

pub returns-then-agrees_on-2 : goal.returns-then-agrees_on-2
returns-then-agrees_on-2 c = rw (agree-by-axes c.args.q c.args.before c.args.tolerances) (search rules)

pub returns-else-agrees_on-2 : goal.returns-else-agrees_on-2
returns-else-agrees_on-2 c = rw (agree-by-axes c.args.q c.args.before c.args.tolerances) (search rules)
