-- `text::reading::read_signed` meets its contract.
use mathlib.Core.Path.{sym, ◌∙◌, ap}
use Rattle.text.specs.Reading.{below, not_below}
use Rattle.text.proofs.Signs.{with-minus, without-minus, past_the_end, below-nothing, not_below-nothing}
use Rattle.text.proofs.reading.read_signed.Goals as goal

pub returns-in_err-b : goal.returns-in_err-b
returns-in_err-b c = c.from_residual.ensures ∙ sym (past_the_end _ _ c.in_err-b.ensures.lookup.3)

pub returns-in_err-n : goal.returns-in_err-n
returns-in_err-n c =
    let is = c.in_ok-b.ensures.lookup.3.1 in
    c.from_residual-in_err-n.ensures ∙ sym below-nothing ∙ ap below (sym c.in_err-n.was ∙ c.read_decimal.ensures) ∙ sym (with-minus _ _ (sym (is 0) ∙ c.if-b-eq45.true))

pub returns-in_ok-n : goal.returns-in_ok-n
returns-in_ok-n c =
    let is = c.in_ok-b.ensures.lookup.3.1 in
    c.negative.ensures ∙ ap below (sym c.in_ok-n.was ∙ c.read_decimal.ensures) ∙ sym (with-minus _ _ (sym (is 0) ∙ c.if-b-eq45.true))

pub returns-in_err-n-2 : goal.returns-in_err-n-2
returns-in_err-n-2 c =
    let is = c.in_ok-b.ensures.lookup.3.1 in
    c.from_residual-in_err-n-2.ensures
    ∙ sym not_below-nothing
    ∙ ap not_below (sym c.in_err-n-2.was ∙ c.read_decimal-else-b-eq45.ensures)
    ∙ sym (without-minus _ _ (λ e. c.if-b-eq45.false (is 0 ∙ e)))

pub returns-in_ok-n-2 : goal.returns-in_ok-n-2
returns-in_ok-n-2 c =
    let is = c.in_ok-b.ensures.lookup.3.1 in
    c.positive.ensures ∙ ap not_below (sym c.in_ok-n-2.was ∙ c.read_decimal-else-b-eq45.ensures) ∙ sym (without-minus _ _ (λ e. c.if-b-eq45.false (is 0 ∙ e)))
