-- Each bad version of rounds fails the demand that is named for it, in a start with p 3.
use mathlib.Core.Path.{sym, ap, ◌∙◌, subst}
use mathlib.Core.Logic.{⊎_elim}
use Prim.Native.Nat.{◌*◌, ◌≤◌, ◌<◌}
use native.Mathlib.Omega.{arith}
use lib.IntN.{pos}
use Rattle.exact.specs.Numerator.{D}
use Rattle.epoch_steps.specs.Refusals.{later_round}
use Rattle.epoch_steps.proofs.Left.{later-points}
use Rattle.session.specs.Coordinates.{on_x}
use Rattle.rules.specs.Rules.{Unrefused}
use Rattle.demands.specs.Refusals.{RoundWithin, start_table, refine_table}
use Rattle.demands.specs.Histories.{after}
use Rattle.demands.specs.Demands.{Demand2, Counts, Leaves, Demand1}
use Rattle.demands.specs.BadVersions.{opening_at_once, opening_anyhow, never_counting, ignoring_velocities_of_rounds, keeping_starts}
use Rattle.demands.proofs.Rounds.{start-number}
use Rattle.demands.proofs.Ours.{start_none, refine-none}
use Rattle.demands.proofs.Examples.{state_number}
use Rattle.demands.proofs.RoundExamples.{force, first, begun, moved, turning, kind, computed, even}
use Rattle.demands.proofs.Conditions.{rounds-apart}
use Rattle.session.specs.Moves.{closed_session}
use Rattle.demands.proofs.Records.{starting-record}

-- ---- no rule refuses the first round, nor a later one

pub unrefused-first : Unrefused (start_table first)
unrefused-first = (start_none first).0 computed.unrefused

pub unrefused-same : Unrefused (refine_table begun (force (pos 12)))
unrefused-same = (refine-none begun (force (pos 12))).0 computed.unrefused_same

pub unrefused-other : Unrefused (refine_table begun (force (pos 24)))
unrefused-other = (refine-none begun (force (pos 24))).0 computed.unrefused_other

-- the newest position moved by 6 ticks, and its tolerance is 0
pub not_within : ¬ RoundWithin begun (later_round begun (force (pos 24)))
not_within w =
    let n : 0 < (later_round begun (force (pos 24))).points = subst (λ n. 0 < n) (sym (later-points begun (force (pos 24)) ∙ computed.points)) (omega arith) in
    let h : 6 * D ≤ 0 * D = subst (λ t. 6 * D ≤ t.position * D) computed.tolerances (subst (λ n. n ≤ begun.tolerances.position * D) computed.far (w 0 n on_x).0) in
    absurd (omega (arith, h))

-- ---- opens at its first round, which must ask for more and leave a starting record

pub opening_at_once2 : ¬ Demand2 opening_at_once
opening_at_once2 d = omega (arith, sym (ap kind computed.at_once) ∙ ap (λ a. kind a.answer.outcome) (d.starts closed_session first unrefused-first))

pub opening_at_once_leaves : ¬ Leaves opening_at_once
opening_at_once_leaves d =
    ⊎_elim (λ e. omega (arith, sym computed.at_once_state ∙ ap (λ s. state_number s.state) e ∙ computed.closed_state))
    (λ t. omega (arith, sym computed.at_once_state ∙ ap state_number t.state))
    (d.starts closed_session first)

-- ---- opens at any later round, also where a point moved

pub opening_anyhow2 : ¬ Demand2 opening_anyhow
opening_anyhow2 d = omega (arith, sym (ap kind computed.anyhow) ∙ ap (λ a. kind a.answer.outcome) (d.asks_more begun (force (pos 24)) unrefused-other not_within))

-- ---- looks at positions alone, also where a velocity moved

pub ignoring_velocities_of_rounds2 : ¬ Demand2 ignoring_velocities_of_rounds
ignoring_velocities_of_rounds2 d =
    let floats = force (pos 24) in
    let more = d.asks_more turning floats ((refine-none turning floats).0 computed.turns_more) ((rounds-apart turning (later_round turning floats)).no.0 computed.turned) in
    omega (arith, sym (ap kind computed.ignored) ∙ ap (λ a. kind a.answer.outcome) more)

-- ---- counts no round: one asked for more, and the record counts none

pub never_counting_counts : ¬ Counts never_counting
never_counting_counts d =
    omega (arith, sym computed.not_counted ∙ d.rounds closed_session first (start-number first ∙ computed.unrefused) moved ((starting-record (after never_counting begun moved)).yes.0 computed.still_starting) ∙ computed.counted_once)

-- ---- keeps the record that was there where it refuses a first round: starting where it must be closed

pub keeping_starts1 : ¬ Demand1 keeping_starts
keeping_starts1 d =
    let e = d.unstarted begun even (λ z. omega (arith, sym (start-number even ∙ computed.tenth) ∙ z)) in
    omega (arith, sym computed.kept_start ∙ ap (λ s. state_number s.state) e ∙ computed.closed_state)
