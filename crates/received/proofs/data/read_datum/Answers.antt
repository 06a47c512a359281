-- `received::data::read_datum` meets its contract.
use mathlib.Core.Path.{sym, ◌∙◌, ap}
use lib.ListN.{drop}
use Rattle.text.specs.Numbers.{ascii}
use Rattle.calendar.specs.Text.{same_text}
use Rattle.received.proofs.Datums.{short, untimed, fieldless, unended, whole}
use Rattle.received.proofs.data.read_datum.Goals as goal

pub returns-then-line-lt19 : goal.returns-then-line-lt19
returns-then-line-lt19 c = short c.args.line.now c.if-line-lt19.true

pub returns-in_err-seconds : goal.returns-in_err-seconds
returns-in_err-seconds c = rw c.from_residual.ensures (untimed c.args.line.now (sym c.in_err-seconds.was ∙ c.read_time.ensures))

pub returns-in_err-values : goal.returns-in_err-values
returns-in_err-values c =
    rw c.from_residual-in_err-values.ensures (fieldless c.args.line.now (sym c.read_time.ensures ∙ c.in_ok-seconds.was) c.in_err-values.ensures)

pub returns-then-ends_at : goal.returns-then-ends_at
returns-then-ends_at c =
    let line = c.args.line.now in
    let f = c.in_ok-values.ensures in
    whole line (sym c.read_time.ensures ∙ c.in_ok-seconds.was) f.0
    (sym (c.ends_at.ensures ∙ ap (λ at. same_text (drop at line) (ascii "\n")) f.1) ∙ c.if-ends_at.true)

pub returns-else-ends_at : goal.returns-else-ends_at
returns-else-ends_at c =
    let line = c.args.line.now in
    unended line (sym (c.ends_at.ensures ∙ ap (λ at. same_text (drop at line) (ascii "\n")) c.in_ok-values.ensures.1) ∙ c.if-ends_at.false)
