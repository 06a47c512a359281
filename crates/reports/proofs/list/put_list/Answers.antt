-- `reports::list::put_list` meets its contract: by the number.
use mathlib.Core.Path.{sym, ap}
use native.Mathlib.Omega.{arith}
use lib.ListN.{length}
use Rattle.text.proofs.Written.{retold}
use Rattle.text.proofs.Pieces.{has_room}
use Rattle.reports.proofs.Cases.{list-mended, list-refused}
use Rattle.reports.proofs.list.put_list.Goals as goal

pub put_changes-requires : goal.put_changes-requires
put_changes-requires c =
    let a = c.args in
    record { count_in_bounds = c.requires.count_in_bounds; words_in_bounds = omega (arith, c.requires.count_in_bounds_2, ap length (list-mended a.number a.words.now a.count c.if-number-eq0.true)) }

pub returns-then-number-eq0 : goal.returns-then-number-eq0
returns-then-number-eq0 c =
    let a = c.args in
    retold (sym (list-mended a.number a.words.now a.count c.if-number-eq0.true)) c.put_changes.ensures

pub put_refused-requires : goal.put_refused-requires
put_refused-requires c =
    let a = c.args in
    has_room (omega (arith, c.requires.count_in_bounds_2, ap length (list-refused a.number a.words.now a.count c.if-number-eq0.false)))

pub returns-else-number-eq0 : goal.returns-else-number-eq0
returns-else-number-eq0 c =
    let a = c.args in
    retold (sym (list-refused a.number a.words.now a.count c.if-number-eq0.false)) c.put_refused.ensures
