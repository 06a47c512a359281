-- `message::forms::is_time` meets its contract.
use Rattle.std.specs.Prelude.{is_some}
use mathlib.Core.Path.{◌∙◌, ap}
use Rattle.message.specs.Refusals.{is_time}
use Rattle.message.proofs.forms.is_time.Goals as goal

pub returns : goal.returns
unfolding is_time
returns c = c.is_some.ensures ∙ ap is_some c.read_time.ensures
