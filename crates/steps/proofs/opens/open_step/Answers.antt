-- `steps::opens::open_step` meets its contract: the session, or what refuses it.
use mathlib.Core.Path.{sym, ap, ◌∙◌}
use Rattle.std.specs.Prelude.{Ok, Err}
use Rattle.session.specs.Requests.{request, exact_point}
use Rattle.steps.specs.Opening.{opened_with}
use Rattle.steps.specs.Refusals.{open_refusal}
use Rattle.steps.specs.Steps.{open_by, open_of}
use Rattle.steps.proofs.Results.{passed-value, refused-number, open-refuses}
use Rattle.steps.proofs.opens.open_step.Goals as goal

pub returns-in-Ok : goal.returns-in-Ok
unfolding open_of
returns-in-Ok c =
    let r = request c.args.points c.args.tolerances c.args.limit c.args.point c.args.floats.now in
    let (e, s) = passed-value (opened_with r.points r.tolerances r.limit (exact_point r.point) r.floats) (open_refusal r) c.in-Ok.ensures in
    ap (λ t. record { session = t; answer = Ok tt }) s ∙ ap (λ n. open_by n r) (sym e)

pub returns-in-Err : goal.returns-in-Err
unfolding open_of
returns-in-Err c =
    let r = request c.args.points c.args.tolerances c.args.limit c.args.point c.args.floats.now in
    let (e, f) = refused-number (opened_with r.points r.tolerances r.limit (exact_point r.point) r.floats) (open_refusal r) c.in-Err.ensures in
    ap (λ t. record { session = t; answer = Err c.in-Err.refusal }) c.closed.ensures ∙ sym (open-refuses r _ f) ∙ ap (λ n. open_by n r) (sym e)
