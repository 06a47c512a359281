-- `received::forms::rest_of` meets its contract: no front, or what stands behind it.
use Rattle.received.proofs.Fronts.{no_front, cut}
use Rattle.received.proofs.forms.rest_of.Goals as goal

pub returns-in_err-strip_prefix : goal.returns-in_err-strip_prefix
returns-in_err-strip_prefix c = rw c.from_residual.ensures (no_front c.args.front.now c.args.line.now c.in_err-strip_prefix.ensures.cases)

pub returns : goal.returns
returns c =
    let x = c.in_ok-strip_prefix in
    cut c.args.front.now c.args.line.now x.field-0.now x.ensures.cases.1 x.ensures.cases.0 (λ b. b.now) c.strip_suffix.result c.strip_suffix.ensures.cases
