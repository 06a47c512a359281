-- `decimal::reading::read_decimals` meets its contract.
use mathlib.Core.Path.{sym, ◌∙◌}
use Rattle.decimal.proofs.Texts.{no_byte, no-point, a_point}
use Rattle.decimal.proofs.reading.read_decimals.Goals as goal

pub returns-in_err-b : goal.returns-in_err-b
returns-in_err-b c = c.from_residual.ensures ∙ sym (no_byte _ _ _ _ c.in_err-b.ensures.lookup.3)

pub returns-then-b-ne46 : goal.returns-then-b-ne46
returns-then-b-ne46 c =
    let (h, is) = c.in_ok-b.ensures.lookup.3 in
    sym (no-point _ _ _ _ h (λ e. c.if-b-ne46.true (is 0 ∙ e)))

pub returns : goal.returns
returns c =
    let (h, is) = c.in_ok-b.ensures.lookup.3 in
    c.read_digits.ensures ∙ sym (a_point _ _ _ _ h (sym (is 0) ∙ c.if-b-ne46.false))
