-- `received::judging::is_time_of` meets its contract.
use mathlib.Core.Path.{◌∙◌}
use Rattle.received.proofs.Times.{time-same}
use Rattle.received.proofs.judging.is_time_of.Goals as goal

pub returns : goal.returns
returns c = c.eq.ensures ∙ time-same c.args.s.now c.args.seconds c.requires c.read_time.ensures
