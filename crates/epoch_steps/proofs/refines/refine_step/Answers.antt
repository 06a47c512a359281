-- `epoch_steps::refines::refine_step` meets its contract: the round, or what refuses it before it is compared.
use mathlib.Core.Path.{sym, ap, subst, ◌∙◌}
use Rattle.rules.specs.Rules.{first_of}
use Rattle.epoch_session.specs.declared.Round.{Round}
use Rattle.epoch_session.specs.Rounds.{round_in_range}
use Rattle.epoch_session.specs.Ready.{ReadyRound}
use Rattle.steps.proofs.Results.{passed-value, refused-number}
use Rattle.epoch_steps.specs.Refusals.{later_round, later_rules, early_refusal}
use Rattle.epoch_steps.specs.Steps.{refine_by}
use Rattle.epoch_steps.proofs.Compared.{later-ready, later-points}
use Rattle.epoch_steps.proofs.Refusals.{early-refuses, early-starting, early-range, early-gives}
use Rattle.epoch_steps.proofs.refines.refine_step.Goals as goal

pub judge_round-requires : goal.judge_round-requires
judge_round-requires c =
    let s = c.args.s in
    let floats = c.args.floats.now in
    let (z, e) = passed-value (later_round s floats) (early_refusal s floats) c.in-Ok.ensures in
    let t = early-starting s floats z in
    record { s_value = t; ready_round = subst ReadyRound (sym e) (later-ready s floats t); points_value = ap (λ (x : Round). x.points) e ∙ later-points s floats; r_value = ap round_in_range e ∙ early-range s floats z }

pub returns-in-Ok : goal.returns-in-Ok
returns-in-Ok c =
    let s = c.args.s in
    let floats = c.args.floats.now in
    let (z, e) = passed-value (later_round s floats) (early_refusal s floats) c.in-Ok.ensures in
    c.judge_round.ensures ∙ ap (λ r. refine_by (first_of (later_rules s r)) s r) e ∙ early-gives s floats z

pub returns-in-Err : goal.returns-in-Err
returns-in-Err c =
    let s = c.args.s in
    let floats = c.args.floats.now in
    let (e, f) = refused-number (later_round s floats) (early_refusal s floats) c.in-Err.ensures in
    c.refused.ensures ∙ early-refuses s floats _ f e
