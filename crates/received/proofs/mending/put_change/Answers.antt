-- `received::mending::put_change` meets its contract.
use native.Mathlib.Omega.{arith}
use lib.ListN.{length-set}
use Rattle.received.proofs.Turns.{two}
use Rattle.received.proofs.mending.put_change.Goals as goal

pub bounds-changes-at-2 : goal.bounds-changes-at-2
bounds-changes-at-2 c = let a = c.args in omega (arith, c.requires, length-set a.changes.now a.at a.line)

pub returns : goal.returns
returns c = let a = c.args in two a.changes.now a.at a.line a.what c.requires
