-- `epoch_steps::starts::start_step` meets its contract: the round, or what refuses it.
use mathlib.Core.Path.{sym, ap, subst, ◌∙◌}
use Rattle.session.specs.Requests.{request, exact_point}
use Rattle.epoch_session.specs.Rounds.{round_in_range}
use Rattle.epoch_session.specs.Ready.{ReadyRound}
use Rattle.steps.proofs.Given.{exact-point-placed}
use Rattle.steps.proofs.Results.{passed-value, refused-number}
use Rattle.epoch_steps.specs.Refusals.{first_round, start_refusal}
use Rattle.epoch_steps.specs.Steps.{refused, start_by, start_of}
use Rattle.epoch_steps.proofs.Compared.{given-ready}
use Rattle.epoch_steps.proofs.Refusals.{start-refuses, started-centred, started-range, started-points}
use Rattle.epoch_steps.proofs.starts.start_step.Goals as goal

pub begin-requires : goal.begin-requires
begin-requires c =
    let r = request c.args.points c.args.tolerances c.args.limit c.args.epoch c.args.floats.now in
    let (z, e) = passed-value (first_round r) (start_refusal r) c.in-Ok.ensures in
    let ready = given-ready r.points (exact_point r.point) r.floats (started-centred r z) (exact-point-placed r.point (started-range r z)) in
    record { ready_round = subst ReadyRound (sym e) ready; r_value = ap round_in_range e ∙ started-points r z }

pub returns-in-Ok : goal.returns-in-Ok
unfolding start_of
returns-in-Ok c =
    let r = request c.args.points c.args.tolerances c.args.limit c.args.epoch c.args.floats.now in
    let (z, e) = passed-value (first_round r) (start_refusal r) c.in-Ok.ensures in
    c.begin.ensures
    ∙ (λ i. start_by 0 r.tolerances r.limit (c.exact_point.ensures i) (e i))
    ∙ ap (λ n. start_by n r.tolerances r.limit (exact_point r.point) (first_round r)) (sym z)

pub returns-in-Err : goal.returns-in-Err
unfolding start_of
returns-in-Err c =
    let r = request c.args.points c.args.tolerances c.args.limit c.args.epoch c.args.floats.now in
    let (e, f) = refused-number (first_round r) (start_refusal r) c.in-Err.ensures in
    c.refused.ensures
    ∙ ap (λ t. record { session = t; answer = refused c.in-Err.refusal }) c.closed.ensures
    ∙ sym (start-refuses r.tolerances r.limit (exact_point r.point) (first_round r) _ f)
    ∙ ap (λ n. start_by n r.tolerances r.limit (exact_point r.point) (first_round r)) (sym e)
