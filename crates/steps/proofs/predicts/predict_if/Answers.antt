-- `steps::predicts::predict_if` meets its contract: the point, or what refuses it.
use mathlib.Core.Path.{sym, ap, ◌∙◌}
use Rattle.std.specs.Prelude.{Ok}
use Rattle.session.specs.Moves.{predicted_point, point_in_range, awaiting_at}
use Rattle.steps.specs.Answers.{reported_point}
use Rattle.steps.specs.Refusals.{predict_refusal}
use Rattle.steps.specs.Steps.{predict_by, predict_of}
use Rattle.steps.proofs.Refusals.{predicted-range}
use Rattle.steps.proofs.Results.{passed-value, refused-number, predict-refuses}
use Rattle.steps.proofs.predicts.predict_if.Goals as goal

pub report_point-requires : goal.report_point-requires
report_point-requires c =
    let s = c.args.s in
    let (e, q) = passed-value (predicted_point s) (predict_refusal s) c.in-Ok.ensures in
    ap point_in_range q ∙ predicted-range s e

pub returns-in-Ok : goal.returns-in-Ok
unfolding predict_of
returns-in-Ok c =
    let s = c.args.s in
    let (e, q) = passed-value (predicted_point s) (predict_refusal s) c.in-Ok.ensures in
    let session = c.await_at.ensures ∙ ap (awaiting_at s 0) q in
    let point = c.report_point.ensures ∙ ap reported_point q in
    (λ i. record { session = session i; answer = Ok (point i) }) ∙ ap (λ n. predict_by n s) (sym e)

pub returns-in-Err : goal.returns-in-Err
unfolding predict_of
returns-in-Err c =
    let s = c.args.s in
    let (e, f) = refused-number (predicted_point s) (predict_refusal s) c.in-Err.ensures in
    sym (predict-refuses s _ f) ∙ ap (λ n. predict_by n s) (sym e)
