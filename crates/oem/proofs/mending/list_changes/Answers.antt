-- `oem::mending::list_changes` meets its contract: the list has room.
use native.Mathlib.Omega.{arith}
use borrow.Author.Rules.{rules}
use Rattle.text.proofs.Written.{from_start}
use Rattle.reports.specs.Lengths.{list-short}
use Rattle.oem.proofs.Said.{said}
use Rattle.oem.proofs.mending.list_changes.Goals as goal

pub put_list-requires : goal.put_list-requires
put_list-requires c =
    let d = c.args.done in
    record { count_in_bounds = c.requires.0; count_in_bounds_2 = omega (arith, c.new-w.ensures.long, c.new-w.ensures.starts, list-short d.number c.args.changes.now d.changes, c.requires.0, c.requires.1) }

pub returns : goal.returns
returns c =
    let d = c.args.done in
    let says = said (from_start c.new-w.ensures c.put_list.ensures) (omega (arith, list-short d.number c.args.changes.now d.changes, c.requires.0, c.requires.1)) in
    rw c.place.ensures (search (rules, says))
