-- `message::forms::settings_hold` meets its contract.
use mathlib.Core.Path.{sym, ◌∙◌}
use native.Mathlib.Omega.{arith}
use borrow.Author.Tests.{lt-leb, le-leb}
use Rattle.integers.specs.Tests.{and_no, and_yes}
use Rattle.message.specs.Refusals.{settings_hold}
use Rattle.message.proofs.forms.settings_hold.Goals as goal

pub returns-else-tick-le16 : goal.returns-else-tick-le16
unfolding settings_hold
returns-else-tick-le16 c = let e = lt-leb c.args.tick 16 c.if-tick-le16.false in e ∙ and_no _ e

pub returns-in-1-to-3600 : goal.returns-in-1-to-3600
unfolding settings_hold
returns-in-1-to-3600 c =
    and_yes (le-leb _ _ c.if-tick-le16.true) (and_yes (le-leb 1 c.args.step (omega arith)) (sym (le-leb c.args.step 3600 (omega arith))))

pub returns-in_default : goal.returns-in_default
unfolding settings_hold
returns-in_default c = and_yes (le-leb _ _ c.if-tick-le16.true) (and_no _ (lt-leb 1 c.args.step (omega arith)))

pub returns-in_default-2 : goal.returns-in_default-2
unfolding settings_hold
returns-in_default-2 c =
    and_yes (le-leb _ _ c.if-tick-le16.true) (and_yes (le-leb 1 c.args.step (omega arith)) (sym (lt-leb c.args.step 3600 (omega arith))))
