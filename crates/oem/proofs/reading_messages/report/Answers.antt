-- `oem::reading_messages::report` meets its contract: what the reader answered is printed, and the rooms are large enough for it.
use mathlib.Core.Path.{◌∙◌, ap}
use native.Mathlib.Omega.{arith}
use lib.ListN.{length}
use borrow.Author.Rules.{rules}
use Rattle.text.proofs.Written.{from_start, retold}
use Rattle.received.specs.Versions.{edition_in}
use Rattle.reports.proofs.Printed.{ready, reported, report-fits, as-printed}
use Rattle.oem.proofs.Said.{said}
use Rattle.oem.proofs.reading_messages.report.Goals as goal

pub put_report-requires : goal.put_report-requires
put_report-requires c =
    let text = c.args.text.now in
    let epochs = c.args.epochs.now in
    let values = c.args.values.now in
    let e = c.read_either-received.ensures.value in
    let a = c.read_either-received.ensures.epochs_after in
    let b = c.read_either-received.ensures.values_after in
    let p = ready (edition_in text) text epochs values e a b in
    let l = ap length (reported (edition_in text) text epochs values e a b) in
    record { all_within = p.within; count_in_bounds = (p.in-epochs, p.in-values); values_in_bounds = omega (arith, c.new-w.ensures.long, c.new-w.ensures.starts, l, report-fits (edition_in text) text epochs values, c.requires.text_len_bound.1, c.requires.epochs_len.0) }

pub returns : goal.returns
returns c =
    let text = c.args.text.now in
    let epochs = c.args.epochs.now in
    let values = c.args.values.now in
    let e = c.read_either-received.ensures.value in
    let a = c.read_either-received.ensures.epochs_after in
    let b = c.read_either-received.ensures.values_after in
    let printed = as-printed text epochs values c.requires.text_len_bound.0 c.requires.epochs_len.0 c.requires.epochs_len.1 in
    let says = said (from_start c.new-w.ensures (retold (reported (edition_in text) text epochs values e a b ∙ printed) c.put_report.ensures))
    (omega (arith, ap length printed, report-fits (edition_in text) text epochs values, c.requires.text_len_bound.1, c.requires.epochs_len.0)) in
    rw c.place.ensures (search (rules, says))
