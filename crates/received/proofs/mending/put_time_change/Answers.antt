-- `received::mending::put_time_change` meets its contract: a time that is right leaves nothing to list.
use mathlib.Core.List.{flatten}
use Rattle.text.proofs.Pieces.{nothing}
use Rattle.received.specs.Planning.{change_unless}
use Rattle.received.proofs.mending.put_time_change.Goals as goal

pub returns-then-same : goal.returns-then-same
unfolding change_unless flatten
returns-then-same c =
    let a = c.args in
    rw c.if-same.true (nothing a.changes.now a.at)

pub put_change-requires : goal.put_change-requires
unfolding change_unless flatten
put_change-requires c = rw c.if-same.false at c.requires

pub returns : goal.returns
unfolding change_unless flatten
returns c = rw c.if-same.false c.put_change.ensures
