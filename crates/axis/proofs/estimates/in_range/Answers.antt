-- `axis::estimates::in_range` meets its contract: the two tests.
use Rattle.std.proofs.Common.{sym, ◌∙◌}
use Rattle.integers.specs.Tests.{and_no, and_yes}
use Rattle.axis.specs.Estimates.{in_range}
use Rattle.axis.proofs.estimates.in_range.Goals as goal

pub returns-then-is_position : goal.returns-then-is_position
unfolding in_range
returns-then-is_position c = and_yes (sym c.is_position.ensures ∙ c.if-is_position.true) c.is_velocity.ensures

pub returns-else-is_position : goal.returns-else-is_position
unfolding in_range
returns-else-is_position c = c.if-is_position.false ∙ and_no _ (sym c.is_position.ensures ∙ c.if-is_position.false)
