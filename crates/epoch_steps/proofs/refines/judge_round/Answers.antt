-- `epoch_steps::refines::judge_round` meets its contract: opened, the last, or more is asked for.
use mathlib.Core.Path.{◌≡◌, sym, ap, ◌∙◌}
use mathlib.Core.Bool.{true, false}
use Prim.Native.Nat.{◌+◌}
use native.Mathlib.Omega.{arith}
use borrow.Author.Tests.{le-leb, lt-leb}
use Rattle.axis.specs.Agreement.{sizes}
use Rattle.session.proofs.Rules.{settings-hold}
use Rattle.epoch_session.specs.Rounds.{rounds_agree, largest_move}
use Rattle.epoch_session.specs.Records.{held_round}
use Rattle.epoch_session.proofs.Points.{move-within}
use Rattle.epoch_session.proofs.Rules.{keeps-start, starting-round}
use Rattle.steps.specs.Answers.{reported_motion, reported_change}
use Rattle.steps.specs.Refusals.{is_last}
use Rattle.steps.proofs.Changes.{sizes-report}
use Rattle.epoch_steps.specs.declared.Outcome.TheVariants.{More, Opened}
use Rattle.epoch_steps.specs.Steps.{refused, starting_from}
use Rattle.epoch_steps.proofs.Compared.{comparable, later-opens, later-ends, later-asks}
use Rattle.epoch_steps.proofs.refines.judge_round.Goals as goal

pub held_round-before-requires : goal.held_round-before-requires
held_round-before-requires c = starting-round c.args.s c.requires.s_value

pub rounds_agree-requires : goal.rounds_agree-requires
rounds_agree-requires c =
    let s = c.args.s in
    let g = c.held_round-before in
    let k = comparable s c.args.r g.result c.requires.s_value c.requires.ready_round c.requires.points_value c.requires.r_value g.ensures in
    record { tolerable = ((settings-hold s.tolerances s.limit).0 (keeps-start s c.requires.s_value).settings).0; ready_round = k.ready; ready_round_2 = k.ready-before; points_value = k.points; r_value = k.range; before_value = k.range-before }

pub returns-then-rounds_agree : goal.returns-then-rounds_agree
returns-then-rounds_agree c =
    let s = c.args.s in
    let r = c.args.r in
    let a : rounds_agree s.tolerances r (held_round s) ≡ true = ap (rounds_agree s.tolerances r) (sym c.held_round-before.ensures) ∙ sym c.rounds_agree.ensures ∙ c.if-rounds_agree.true in
    let session = c.open_round.ensures in
    let points = c.round_points.ensures in
    (λ i. record { session = session i; answer = record { outcome = Opened; track = points i } }) ∙ sym (later-opens s r c.requires.r_value a)

pub overflow_add-made : goal.overflow_add-made
overflow_add-made c =
    let s = c.args.s in
    let h = keeps-start s c.requires.s_value in
    omega (arith, h.rounds, ((settings-hold s.tolerances s.limit).0 h.settings).1.1)

pub returns-then-s-made : goal.returns-then-s-made
unfolding is_last
returns-then-s-made c =
    let s = c.args.s in
    let r = c.args.r in
    let a : rounds_agree s.tolerances r (held_round s) ≡ false = ap (rounds_agree s.tolerances r) (sym c.held_round-before.ensures) ∙ sym c.rounds_agree.ensures ∙ c.if-rounds_agree.false in
    c.refused.ensures
    ∙ (λ i. record { session = c.closed.ensures i; answer = refused (c.into.ensures i) })
    ∙ sym (later-ends s r c.requires.r_value a (le-leb _ _ c.if-s-made.true))

pub largest_move-requires : goal.largest_move-requires
largest_move-requires c =
    let k = comparable c.args.s c.args.r c.held_round-before.result c.requires.s_value c.requires.ready_round c.requires.points_value c.requires.r_value c.held_round-before.ensures in
    record { ready_round = k.ready; ready_round_2 = k.ready-before; points_value = k.points; r_value = k.range; before_value = k.range-before }

pub report_motion-change-requires : goal.report_motion-change-requires
report_motion-change-requires c =
    let r = c.args.r in
    let before = c.held_round-before.result in
    let k = comparable c.args.s r before c.requires.s_value c.requires.ready_round c.requires.points_value c.requires.r_value c.held_round-before.ensures in
    let m = sizes-report (largest_move r before) (move-within r before k.points k.range k.range-before) in
    record { whole_bound = rw c.largest_move.ensures m.0; whole_bound_2 = rw c.largest_move.ensures m.1 }

pub returns : goal.returns
unfolding is_last reported_change
returns c =
    let s = c.args.s in
    let r = c.args.r in
    let a : rounds_agree s.tolerances r (held_round s) ≡ false = ap (rounds_agree s.tolerances r) (sym c.held_round-before.ensures) ∙ sym c.rounds_agree.ensures ∙ c.if-rounds_agree.false in
    let session = c.starting_from.ensures ∙ ap (λ q. starting_from s.tolerances s.limit (s.corrections + 1) q r) c.estimate_of.ensures in
    let change = c.report_motion-change.ensures ∙ ap reported_motion (c.largest_move.ensures ∙ ap (λ q. sizes (largest_move r q)) c.held_round-before.ensures) in
    let points = c.round_points-2.ensures in
    (λ i. record { session = session i; answer = record { outcome = More (change i); track = points i } })
    ∙ sym (later-asks s r c.requires.r_value a (lt-leb _ _ c.if-s-made.false))
