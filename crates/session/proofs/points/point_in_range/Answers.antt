-- `session::points::point_in_range` meets its contract: the three tests.
use Rattle.std.proofs.Common.{rules}
use Rattle.session.proofs.Values.{range-by-axes}
use Rattle.session.proofs.points.point_in_range.Goals as goal

pub returns-then-in_range-2 : goal.returns-then-in_range-2
returns-then-in_range-2 c = rw (range-by-axes c.args.q) (search rules)

pub returns-else-in_range-2 : goal.returns-else-in_range-2
returns-else-in_range-2 c = rw (range-by-axes c.args.q) (search rules)
