-- `axis::changes::agrees_on` meets its contract: the two tests.
use borrow.Author.Rules.{rules}
use Rattle.axis.specs.Agreement.{agrees_on}
use Rattle.axis.proofs.changes.agrees_on.Goals as goal

pub returns-then-is_within : goal.returns-then-is_within
unfolding agrees_on
returns-then-is_within c = search rules

pub returns-else-is_within : goal.returns-else-is_within
unfolding agrees_on
returns-else-is_within c = search rules
