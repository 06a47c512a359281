-- `message::forms::one_case` meets its contract.
use mathlib.Core.Path.{◌∙◌, ap, sym}
use mathlib.Core.Bool.{not}
use Rattle.integers.specs.Tests.{and_no, and_yes}
use Rattle.message.specs.Form.{one_case}
use Rattle.message.proofs.forms.one_case.Goals as goal
use Rattle.message.proofs.forms.one_case.Goals.{then-has_between, else-has_between}

pub returns : goal.returns
unfolding one_case
returns c =
    ap not
    (elim c.if-has_between.branch [
      | then-has_between w ↦ w.result-is ∙ and_yes (sym w.if-has_between.ensures) w.has_between-then-has_between.ensures
      | else-has_between w ↦ w.result-is ∙ w.if-has_between.false ∙ and_no _ (sym w.if-has_between.ensures)
    ])
