-- The tables of refusals: rule by rule the tests of each call decide the statements, so its number is that of the first rule that applies.
use mathlib.Core.List.{List}
use lib.Ieee.{Float}
use Rattle.rules.specs.Rules.{Decided, First}
use Rattle.rules.proofs.Readings.{opposite, both, surely, none_left, by_itself, and_then, and-also, first-decided}
use Rattle.ticks.specs.declared.Sample.{Sample}
use Rattle.ticks.specs.Samples.{axes_of, whole_of}
use Rattle.session.specs.declared.Session.{Session}
use Rattle.session.specs.Moves.{corrected_point}
use Rattle.session.specs.Requests.{Request}
use Rattle.steps.specs.Refusals.{sample_rules, open_rules, open_refusal, predict_rules, predict_refusal, correct_rules, correct_refusal, withdraw_rules, withdraw_refusal}
use Rattle.epoch_steps.specs.Refusals.{first_round, start_rules, start_refusal, later_round, refine_rules, refine_refusal}
use Rattle.demands.specs.Refusals.{sample_table, open_table, predict_table, correct_table, withdraw_table, start_table, refine_table}
use Rattle.demands.proofs.Conditions.{no-numbers, infinities, large, agreement, some-points, enough, settings, room, is-last, centred, rounds-apart}
use Rattle.demands.proofs.Ranges.{exact-range, predicted-range, corrected-range, track-range}
use Rattle.demands.proofs.Records.{settled-record, awaiting-record, starting-record}

-- ---- the tests decide the statements

samples-decided : (xs : List Float) → Decided (sample_rules xs) (sample_table xs)
samples-decided xs = by_itself (no-numbers xs) (by_itself (infinities xs) (by_itself (large xs) none_left))

open-decided : (r : Request) → Decided (open_rules r) (open_table r)
open-decided r =
    by_itself (opposite (some-points r.points))
    (by_itself (opposite (enough r.floats r.points))
    (by_itself (opposite (settings r.tolerances r.limit))
    (by_itself (opposite (exact-range r.point))
    (samples-decided r.floats))))

predict-decided : (s : Session) → Decided (predict_rules s) (predict_table s)
predict-decided s =
    by_itself (opposite (settled-record s))
    (by_itself (room s)
    (by_itself (opposite (predicted-range s))
    none_left))

correct-decided : (s : Session) (a : Sample) → Decided (correct_rules s a) (correct_table s a)
correct-decided s a =
    let q = corrected_point s (whole_of a) in
    by_itself (opposite (awaiting-record s))
    (and-also (samples-decided (axes_of a))
    (by_itself (opposite (corrected-range s (whole_of a)))
    (by_itself (both (opposite (agreement s q)) (is-last s))
    none_left)))

withdraw-decided : (s : Session) → Decided (withdraw_rules s) (withdraw_table s)
withdraw-decided s = by_itself (opposite (awaiting-record s)) none_left

-- whether there is a centre is asked of 1 to 9 points only
start-decided : (r : Request) → Decided (start_rules r) (start_table r)
start-decided r =
    and_then (opposite (some-points r.points)) (λ some.
    by_itself (centred r.points (surely (some-points r.points) some))
    (by_itself (opposite (enough r.floats r.points))
    (by_itself (opposite (settings r.tolerances r.limit))
    (by_itself (opposite (exact-range r.point))
    (and-also (samples-decided r.floats)
    (by_itself (opposite (track-range (first_round r)))
    none_left))))))

refine-decided : (s : Session) (floats : List Float) → Decided (refine_rules s floats) (refine_table s floats)
refine-decided s floats =
    let round = later_round s floats in
    by_itself (opposite (starting-record s))
    (by_itself (opposite (enough floats s.points))
    (and-also (samples-decided floats)
    (by_itself (opposite (track-range round))
    (by_itself (both (opposite (rounds-apart s round)) (is-last s))
    none_left))))

-- ---- the number of each call is that of the first rule of its table that applies

pub open-first : (r : Request) → First (open_table r) (open_refusal r)
unfolding open_refusal
open-first r = first-decided (open-decided r)

pub predict-first : (s : Session) → First (predict_table s) (predict_refusal s)
unfolding predict_refusal
predict-first s = first-decided (predict-decided s)

pub correct-first : (s : Session) (a : Sample) → First (correct_table s a) (correct_refusal s a)
unfolding correct_refusal
correct-first s a = first-decided (correct-decided s a)

pub withdraw-first : (s : Session) → First (withdraw_table s) (withdraw_refusal s)
unfolding withdraw_refusal
withdraw-first s = first-decided (withdraw-decided s)

pub start_first : (r : Request) → First (start_table r) (start_refusal r)
unfolding start_refusal
start_first r = first-decided (start-decided r)

pub refine-first : (s : Session) (floats : List Float) → First (refine_table s floats) (refine_refusal s floats)
unfolding refine_refusal
refine-first s floats = first-decided (refine-decided s floats)
