-- Each theorem about rounds applies to something: in a start with p 3 its hypotheses are met, by computing.
use mathlib.Core.Path.{◌≡◌, sym, ap, ◌∙◌}
use mathlib.Core.List.{[]}
use Prim.Native.Nat.{ℕ, ◌*◌}
use native.Mathlib.Omega.{arith}
use lib.IntN.{pos}
use Rattle.integers.specs.Differences.{by_differences}
use Rattle.exact.specs.Numerator.{D}
use Rattle.coefficients.specs.Formulas.{unsummed_cowell, adams_moulton}
use Rattle.session.specs.declared.Session.{Session}
use Rattle.session.specs.Moves.{closed_session}
use Rattle.session.specs.Coordinates.{on_x}
use Rattle.session.specs.Requests.{exact_point}
use Rattle.rules.specs.Rules.{NotZero, Unrefused}
use Rattle.steps.specs.Opening.{axis_samples}
use Rattle.epoch_session.specs.Rounds.{earlier_point}
use Rattle.epoch_steps.specs.Answers.{no_points}
use Rattle.epoch_steps.specs.Refusals.{later_round}
use Rattle.epoch_steps.specs.Steps.{refine_of}
use Rattle.epoch_steps.proofs.Left.{start-begins}
use Rattle.demands.specs.Histories.{ours, predict, refine, step, event, after}
use Rattle.demands.specs.Records.{OpenRecord, StartingRecord}
use Rattle.demands.specs.Refusals.{RoundWithin, refine_table}
use Rattle.demands.specs.ClosedForm.{Origin, origin_at, place, opening_samples, origin, start_origin}
use Rattle.demands.specs.Demands.{sample, SamePoint}
use Rattle.demands.specs.Theorems.{refused7}
use Rattle.demands.proofs.Theorems.{our-calls}
use Rattle.demands.proofs.Rounds.{start-number, refine-number}
use Rattle.demands.proofs.RoundsTurnedDown.{unrefused-same, unrefused-other, not_within}
use Rattle.demands.proofs.Conditions.{rounds-apart}
use Rattle.demands.proofs.StartExamples as E
use Rattle.demands.proofs.RoundExamples.{force, first, even, newest, begun, moved, again, computed}

-- a number that was computed is the answer's
given : {m n : ℕ} → m ≡ n → NotZero n → NotZero m
given e f z = f (sym e ∙ z)

-- where the start opens
abbrev there : Origin
there = start_origin begun (force (pos 12))

-- ---- demand 1: an even p, a last round that moved, and a round without samples

closed : (ours.starts closed_session even).session ≡ closed_session
closed = our-calls.demand1.unstarted closed_session even (given (start-number even ∙ computed.tenth) (λ e. omega arith))

no-points : (ours.starts closed_session even).answer.track ≡ no_points
no-points = our-calls.demand1.blank_start closed_session even (given (start-number even ∙ computed.tenth) (λ e. omega arith))

ended : (refine_of again (force (pos 12))).session ≡ closed_session
ended = our-calls.demand1.ended again (force (pos 12)) (refine-number again (force (pos 12)) ∙ computed.eighth)

unrefined : (refine_of begun []).session ≡ begun
unrefined =
    let n = refine-number begun [] ∙ computed.second in
    our-calls.demand1.unrefined begun [] (given n (λ e. omega arith)) (λ e. omega (arith, sym n ∙ e))

no-later-points : (refine_of begun []).answer.track ≡ no_points
no-later-points = our-calls.demand1.blank_round begun [] (given (refine-number begun [] ∙ computed.second) (λ e. omega arith))

-- ---- demand 2: the first round (`unrefused-first`), one that opens, and one that asks for more

opens : Unrefused (refine_table begun (force (pos 12))) × RoundWithin begun (later_round begun (force (pos 12)))
opens = (unrefused-same, (rounds-apart begun (later_round begun (force (pos 12)))).yes.0 computed.agreed)

asks-more : Unrefused (refine_table begun (force (pos 24))) × (¬ RoundWithin begun (later_round begun (force (pos 24))))
asks-more = (unrefused-other, not_within)

-- ---- demand 3 and the counts: two points after the start, and one correction before the second

cowell : by_differences (unsummed_cowell begun.points) (sample there on_x E.two 2) ≡ pos 2067690240
cowell = sym ((our-calls.of_starts.unsummed begun (force (pos 12)) computed.opens E.twice).cowell on_x 2 (omega arith) (omega (arith, (E.computed).points))) ∙ (E.computed).second

adams : by_differences (adams_moulton begun.points) (sample there on_x E.two 1) ≡ pos (12 * D)
adams = sym ((our-calls.of_starts.unsummed begun (force (pos 12)) computed.opens E.twice).adams on_x 1 (omega arith) (omega (arith, (E.computed).points))) ∙ (E.computed).first

two-points : (after ours (E.opened begun) E.twice).accepted ≡ 2
two-points = our-calls.of_starts.accepted begun (force (pos 12)) computed.opens E.twice ∙ (E.computed).points

one-correction : (after ours (E.opened begun) E.once).corrections ≡ 1
one-correction = our-calls.of_starts.awaiting begun (force (pos 12)) computed.opens E.once (E.computed).awaits ∙ (E.computed).one_again

-- ---- alike: it begins where an open at its newest point does, and where the other start opens; after the same two samples all three are at one point

origin-there : (s : Session) → s.points ≡ 3 → earlier_point (later_round s (force (pos 12))) 0 ≡ exact_point newest.point → start_origin s (force (pos 12)) ≡ origin newest
origin-there s p q =
    ap (λ p. origin_at p (earlier_point (later_round s (force (pos 12))) 0) (λ k. axis_samples p (place k) (force (pos 12)))) p
    ∙ ap (λ q. origin_at 3 q (opening_samples newest)) q

same-origin : start_origin begun (force (pos 12)) ≡ origin newest
same-origin = origin-there begun computed.points computed.point0

same : SamePoint ours (after ours (E.opened begun) E.twice) (after ours E.opened_there E.twice)
same =
    our-calls.of_starts.same begun closed_session (force (pos 12)) newest computed.opens computed.opened same-origin E.twice E.twice
    ((E.computed).samples ∙ sym (E.computed).samples_there)

same-starts : SamePoint ours (after ours (E.opened begun) E.twice) (after ours (E.opened E.loose) E.once)
same-starts =
    our-calls.of_starts.same_starts begun E.loose (force (pos 12)) (force (pos 12)) computed.opens (E.computed).opens
    (same-origin ∙ sym (origin-there E.loose (E.computed).three_points (E.computed).point0)) E.twice E.once
    ((E.computed).samples ∙ sym (E.computed).samples_loose)

-- once a round asked for more
one-round : again.corrections ≡ 1
one-round = our-calls.counts.rounds closed_session first (start-number first ∙ computed.unrefused) moved ((our-calls.starting_records again).yes.0 computed.again_starting) ∙ computed.once

-- ---- a starting record, an open one, and a first round that was refused

begins : StartingRecord begun
begins = (our-calls.starting_records begun).yes.0 (start-begins first computed.unrefused)

waits : (step ours begun predict ≡ begun) × (event ours begun predict ≡ refused7 predict)
waits = our-calls.waits begun begins predict tt

opens-record : OpenRecord (E.opened begun)
opens-record = (our-calls.demand3.started begun (force (pos 12)) computed.opens).held

goes_on : (step ours (E.opened begun) (refine []) ≡ E.opened begun) × (event ours (E.opened begun) (refine []) ≡ refused7 (refine []))
goes_on = our-calls.goes_on (E.opened begun) opens-record []

unstarted : after ours (ours.starts closed_session even).session moved ≡ closed_session
unstarted = (our-calls.unstarted closed_session even (given (start-number even ∙ computed.tenth) (λ e. omega arith)) moved).0
