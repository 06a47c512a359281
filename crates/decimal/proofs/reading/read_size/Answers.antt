-- `decimal::reading::read_size` meets its contract.
use mathlib.Core.Path.{sym, ◌∙◌}
use Rattle.decimal.proofs.Texts.{no_whole, a-whole}
use Rattle.decimal.proofs.reading.read_size.Goals as goal

pub returns : goal.returns
returns c =
    c.read_decimals.ensures
    ∙ sym (a-whole _ _ _ _ _ (sym c.read_decimal.ensures ∙ c.in_ok-whole.was))

pub returns-in_err-whole : goal.returns-in_err-whole
returns-in_err-whole c = c.from_residual.ensures ∙ sym (no_whole _ _ _ (sym c.read_decimal.ensures ∙ c.in_err-whole.was))
