-- `axis::holding::remainders_hold` meets its contract: the four tests.
use borrow.Author.Rules.{rules}
use Rattle.std.proofs.lemmas.Grind.{common_steps}
use Rattle.std.proofs.Common.{arith}
use Rattle.axis.specs.Holding.{remainders_hold}
use Rattle.axis.proofs.holding.remainders_hold.Goals as goal

pub returns-then-is_exact-3 : goal.returns-then-is_exact-3
unfolding remainders_hold
returns-then-is_exact-3 c = search rules

pub returns-else-is_exact-3 : goal.returns-else-is_exact-3
unfolding remainders_hold
returns-else-is_exact-3 c = grind (arith, common_steps)
