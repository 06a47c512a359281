-- `received::versions::up_to_newline` meets its contract.
use mathlib.Core.Path.{sym, ◌∙◌}
use Rattle.received.proofs.Newlines.{at_newline, no-newline}
use Rattle.received.proofs.versions.up_to_newline.Goals as goal

pub returns-in-Some : goal.returns-in-Some
returns-in-Some c = (at_newline c.args.text.now c.in-Some.i (sym c.in-Some.is ∙ c.newline_in.ensures)).1

pub returns-in-None : goal.returns-in-None
returns-in-None c = (no-newline c.args.text.now (sym c.in-None.is ∙ c.newline_in.ensures)).1
