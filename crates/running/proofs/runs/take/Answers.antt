-- `running::runs::take` meets its contract: by whether the session could be made ready.
use mathlib.Core.Path.{ap, ◌∙◌}
use Rattle.running.specs.Runs.{come}
use Rattle.running.proofs.Readied.{ready-awaits, ready-corrects, ready-ends}
use Rattle.running.proofs.runs.take.Goals as goal

pub correct_on-requires-clause-s_value : goal.correct_on-requires-clause-s_value
correct_on-requires-clause-s_value c = ready-awaits c.args.run.session c.in-Ok.session c.requires.session_value c.in-Ok.ensures

pub returns-in-Ok : goal.returns-in-Ok
returns-in-Ok c = c.correct_on.ensures ∙ ready-corrects c.args.run c.args.a c.in-Ok.session c.in-Ok.ensures

pub returns-in-Err : goal.returns-in-Err
returns-in-Err c =
    let run = c.args.run in
    c.come_to.ensures ∙ ap (λ n. come run.session n run.answer.points run.answer.used) c.number.ensures ∙ ready-ends run c.args.a c.in-Err.refusal c.in-Err.ensures
