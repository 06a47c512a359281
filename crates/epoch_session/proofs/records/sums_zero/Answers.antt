-- `epoch_session::records::sums_zero` meets its contract: the two tests.
use Rattle.std.proofs.Common.{rules}
use Rattle.exact.specs.Numerator.{exact_of}
use Rattle.epoch_session.specs.Records.{sums_zero}
use Rattle.epoch_session.proofs.records.sums_zero.Goals as goal

pub returns-then-same : goal.returns-then-same
unfolding sums_zero exact_of
returns-then-same c = search rules

pub returns-else-same : goal.returns-else-same
unfolding sums_zero exact_of
returns-else-same c = search rules
