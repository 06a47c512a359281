-- `reports::report::put_report` meets its contract: by the number that was received.
use mathlib.Core.Path.{sym, ap}
use native.Mathlib.Omega.{arith}
use lib.ListN.{length}
use Rattle.text.proofs.Written.{retold}
use Rattle.text.proofs.Pieces.{has_room}
use Rattle.reports.proofs.Cases.{report-read, report-stopped, report-refused}
use Rattle.reports.proofs.report.put_report.Goals as goal

pub put_message-requires : goal.put_message-requires
put_message-requires c =
    let a = c.args in
    record { all_within = c.requires.all_within; count_in_bounds = c.requires.count_in_bounds; values_in_bounds = omega (arith, c.requires.values_in_bounds, ap length (report-read a.text.now a.r a.epochs.now a.values.now c.if-r-eq0.true)) }

pub returns-then-r-eq0 : goal.returns-then-r-eq0
returns-then-r-eq0 c =
    let a = c.args in
    retold (sym (report-read a.text.now a.r a.epochs.now a.values.now c.if-r-eq0.true)) c.put_message.ensures

pub put_stopped-requires : goal.put_stopped-requires
put_stopped-requires c =
    let a = c.args in
    has_room (omega (arith, c.requires.values_in_bounds, ap length (report-stopped a.text.now a.r a.epochs.now a.values.now c.if-r-eq0.false c.if-r-eq15.true)))

pub returns-then-r-eq15 : goal.returns-then-r-eq15
returns-then-r-eq15 c =
    let a = c.args in
    retold (sym (report-stopped a.text.now a.r a.epochs.now a.values.now c.if-r-eq0.false c.if-r-eq15.true)) c.put_stopped.ensures

pub put_refused-requires : goal.put_refused-requires
put_refused-requires c =
    let a = c.args in
    has_room (omega (arith, c.requires.values_in_bounds, ap length (report-refused a.text.now a.r a.epochs.now a.values.now c.if-r-eq0.false c.if-r-eq15.false)))

pub returns-else-r-eq15 : goal.returns-else-r-eq15
returns-else-r-eq15 c =
    let a = c.args in
    retold (sym (report-refused a.text.now a.r a.epochs.now a.values.now c.if-r-eq0.false c.if-r-eq15.false)) c.put_refused.ensures
