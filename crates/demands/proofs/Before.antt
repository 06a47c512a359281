-- The calls as they were, on the record without held sums, give what the calls give: nothing but the clause about the held sums reads them.
use mathlib.Core.Path.{◌≡◌, refl, sym, ap, ap₂, subst, ◌∙◌}
use mathlib.Core.Logic.{⊎_elim}
use mathlib.Core.Bool.{Bool, true, false, not, cond}
use mathlib.Core.List.{List, [], ◌∷◌, ◌++◌}
use Prim.Native.Nat.{ℕ, zero, suc, ◌*◌}
use lib.Dec.{eqb, ltb}
use lib.Ieee.{Float}
use lib.ListN.{length}
use Rattle.integers.specs.Tests.{◌and◌}
use Rattle.rules.specs.Rules.{first_of}
use Rattle.ticks.specs.declared.Sample.{Sample}
use Rattle.ticks.specs.declared.WholeSample.{WholeSample}
use Rattle.ticks.specs.Samples.{axes_of, whole_of}
use Rattle.epoch_coefficients.specs.Formulas.{has_centre}
use Rattle.axis.specs.Formulas.{present_motion, predicted_motion, corrected_motion, advanced_axis}
use Rattle.axis.specs.Holding.{remainders_hold, samples_small, empty_zero, older_holds}
use Rattle.session.specs.declared.Session.{Session}
use Rattle.session.specs.declared.State.{State}
use Rattle.session.specs.declared.State.TheVariants.{Closed, Settled, Awaiting, Starting}
use Rattle.session.specs.Coordinates.{axis_of}
use Rattle.session.specs.Numbers.{settings_hold}
use Rattle.session.specs.Moves.{present_point, estimate_of, predicted_point, corrected_point, point_in_range, settled_again, awaiting_at, accepted_at, closed_session}
use Rattle.session.specs.Holding.{every_axis, counts_hold, settled_holds, estimate_begins, awaiting_holds, state_holds, holds, is_settled, is_awaiting, settled, awaiting}
use Rattle.session.proofs.Coordinates.{coordinates-iff}
use Rattle.epoch_session.specs.declared.Round.{Round}
use Rattle.epoch_session.specs.Rounds.{rounds_agree}
use Rattle.epoch_session.specs.Records.{held_round, sums_zero, older_zero, axis_starts, axes_start, start_holds, is_starting, starting}
use Rattle.steps.specs.Refusals.{sample_rules, point_rules, full, agrees, largest_change, is_last, predict_refusal, correct_refusal, withdraw_refusal}
use Rattle.steps.specs.Steps.{predict_by, predict_of, judged, correct_by, correct_of, withdraw_by, withdraw_of}
use Rattle.epoch_steps.specs.Refusals.{later_round, later_rules, refine_refusal}
use Rattle.epoch_steps.specs.Steps.{judged_round, refine_by, refine_of}
use Rattle.demands.specs.Records.{HeldSums, NoHeldSums}
use Rattle.demands.specs.Histories.{ours, Call, predict, correct, withdraw, refine, predicting, correcting, withdrawing, refining, step, event, after, history, Act, opening, beginning, calling, lived}
use Rattle.demands.specs.Held.{HeldIn, HeldTrue}
use Rattle.demands.specs.Before.{bare, holds_before, start_holds_before, predict_rules_before, correct_rules_before, withdraw_rules_before, refine_rules_before, open_before, predict_before, correct_before, withdraw_before, start_before, refine_before, before, Unchanged}
use Rattle.demands.proofs.Sums.{sums-from, no-sums-from}
use Rattle.demands.proofs.Ours.{leave}
use Rattle.demands.proofs.Held.{held_after}
use Rattle.steps.specs.Answers.{AfterPredict, AfterCorrect, AfterWithdraw}
use Rattle.epoch_steps.specs.Answers.{AfterRound}

-- ---- the tests of a record

module _ (s : Session) where
  state-bare : (k : State) → state_holds k (bare s) ≡ state_holds k s
  unfolding settled_holds awaiting_holds estimate_begins estimate_of predicted_point predicted_motion
  state-bare Closed = refl
  state-bare Settled = refl
  state-bare Awaiting = refl
  state-bare Starting = refl

  -- with the clause about the held sums, and without it
  clauses : Bool → Bool → Bool
  clauses held state =
      counts_hold s
      and every_axis s (λ a. samples_small a.samples)
      and every_axis s remainders_hold
      and point_in_range (present_point s)
      and point_in_range (estimate_of s)
      and every_axis s (λ a. empty_zero s.points a.samples)
      and held
      and state

  holds-bare : HeldSums s → holds_before (bare s) ≡ holds s
  unfolding clauses holds holds_before counts_hold remainders_hold present_point present_motion estimate_of
  holds-bare h = ap₂ clauses (sym ((coordinates-iff (λ k. older_holds s.points (axis_of k s))).1 (sums-from s h))) (state-bare s.state)

  start-bare : NoHeldSums s → start_holds_before (bare s) ≡ start_holds s
  unfolding start_holds start_holds_before axes_start axis_starts sums_zero held_round estimate_of
  start-bare h =
      ap (λ held. has_centre s.points and settings_hold s.tolerances s.limit and eqb s.accepted 0 and ltb s.corrections s.limit and held and axes_start s)
      (sym ((coordinates-iff (λ k. older_zero (axis_of k s))).1 (no-sums-from s h)))

  -- by the state, which says what the held sums are
  settled-bare : (k : State) → HeldIn k s → (is_settled k and holds_before (bare s)) ≡ (is_settled k and holds s)
  settled-bare Closed h = refl
  settled-bare Settled h = holds-bare h
  settled-bare Awaiting h = refl
  settled-bare Starting h = refl

  awaiting-bare : (k : State) → HeldIn k s → (is_awaiting k and holds_before (bare s)) ≡ (is_awaiting k and holds s)
  awaiting-bare Closed h = refl
  awaiting-bare Settled h = refl
  awaiting-bare Awaiting h = holds-bare h
  awaiting-bare Starting h = refl

  starting-bare : (k : State) → HeldIn k s → (is_starting k and start_holds_before (bare s)) ≡ (is_starting k and start_holds s)
  starting-bare Closed h = refl
  starting-bare Settled h = refl
  starting-bare Awaiting h = refl
  starting-bare Starting h = start-bare h

-- ---- the numbers

module _ (s : Session) (h : HeldTrue s) where
  predict-number : first_of (predict_rules_before (bare s)) ≡ predict_refusal s
  unfolding predict_refusal settled full predicted_point predicted_motion
  predict-number = ap (λ t. first_of ((not t, 7) ∷ (full s, 9) ∷ (not (point_in_range (predicted_point s)), 6) ∷ [])) (settled-bare s s.state h)

  correct-number : (a : Sample) → first_of (correct_rules_before (bare s) a) ≡ correct_refusal s a
  unfolding correct_refusal awaiting agrees is_last estimate_of corrected_point corrected_motion
  correct-number a = ap (λ t. first_of ((not t, 7) ∷ (sample_rules (axes_of a) ++ point_rules s (corrected_point s (whole_of a))))) (awaiting-bare s s.state h)

  withdraw-number : first_of (withdraw_rules_before (bare s)) ≡ withdraw_refusal s
  unfolding withdraw_refusal awaiting
  withdraw-number = ap (λ t. first_of ((not t, 7) ∷ [])) (awaiting-bare s s.state h)

  refine-number : (floats : List Float) → first_of (refine_rules_before (bare s) floats) ≡ refine_refusal s floats
  unfolding refine_refusal starting is_last estimate_of later_round held_round
  refine-number floats =
      ap (λ t. first_of ((not t, 7) ∷ (not (eqb (length floats) (3 * s.points)), 2) ∷ (sample_rules floats ++ later_rules s (later_round s floats)))) (starting-bare s s.state h)

-- ---- what each call gives, by its number

bare_after_predict : AfterPredict → AfterPredict
bare_after_predict a = record { session = bare a.session; answer = a.answer }

bare_after_correct : AfterCorrect → AfterCorrect
bare_after_correct a = record { session = bare a.session; answer = a.answer }

bare_after_withdraw : AfterWithdraw → AfterWithdraw
bare_after_withdraw a = record { session = bare a.session; answer = a.answer }

bare_after_round : AfterRound → AfterRound
bare_after_round a = record { session = bare a.session; answer = a.answer }

module _ (s : Session) where
  predict-by : (n : ℕ) → bare_after_predict (predict_by n (bare s)) ≡ bare_after_predict (predict_by n s)
  unfolding bare_after_predict predicted_point predicted_motion awaiting_at
  predict-by zero = refl
  predict-by (suc n) = refl

  judged-by : (b : Bool) (w : WholeSample) → bare_after_correct (judged b (bare s) w (corrected_point (bare s) w)) ≡ bare_after_correct (judged b s w (corrected_point s w))
  unfolding bare_after_correct corrected_point corrected_motion accepted_at advanced_axis awaiting_at largest_change estimate_of
  judged-by true w = refl
  judged-by false w = refl

  ended_by : (b : Bool) → bare (cond b (settled_again (bare s)) (bare s)) ≡ bare (cond b (settled_again s) s)
  unfolding settled_again
  ended_by true = refl
  ended_by false = refl

  correct-by : (n : ℕ) (w : WholeSample) → bare_after_correct (correct_by n (bare s) w) ≡ bare_after_correct (correct_by n s w)
  unfolding bare_after_correct agrees estimate_of corrected_point corrected_motion
  correct-by zero w = judged-by (agrees s (corrected_point s w)) w
  correct-by (suc n) w = λ i. record { session = ended_by (eqb (suc n) 8) i; answer = (correct_by (suc n) s w).answer }

  withdraw-by : (n : ℕ) → bare_after_withdraw (withdraw_by n (bare s)) ≡ bare_after_withdraw (withdraw_by n s)
  unfolding bare_after_withdraw settled_again
  withdraw-by zero = refl
  withdraw-by (suc n) = refl

  judged-round-by : (b : Bool) (r : Round) → bare_after_round (judged_round b (bare s) r) ≡ bare_after_round (judged_round b s r)
  unfolding bare_after_round estimate_of held_round
  judged-round-by true r = refl
  judged-round-by false r = refl

  closed-by : (b : Bool) → bare (cond b closed_session (bare s)) ≡ bare (cond b closed_session s)
  closed-by true = refl
  closed-by false = refl

  refine-by : (n : ℕ) (r : Round) → bare_after_round (refine_by n (bare s) r) ≡ bare_after_round (refine_by n s r)
  unfolding bare_after_round estimate_of held_round
  refine-by zero r = judged-round-by (rounds_agree s.tolerances r (held_round s)) r
  refine-by (suc n) r = λ i. record { session = closed-by (eqb (suc n) 8) i; answer = (refine_by (suc n) s r).answer }

-- ---- the calls

module _ (s : Session) (h : HeldTrue s) where
  predict-same : predict_before (bare s) ≡ bare_after_predict (predict_of s)
  unfolding predict_before bare_after_predict predict_of
  predict-same = ap (λ n. bare_after_predict (predict_by n (bare s))) (predict-number s h) ∙ predict-by s (predict_refusal s)

  correct-same : (a : Sample) → correct_before (bare s) a ≡ bare_after_correct (correct_of s a)
  unfolding correct_before bare_after_correct correct_of
  correct-same a = ap (λ n. bare_after_correct (correct_by n (bare s) (whole_of a))) (correct-number s h a) ∙ correct-by s (correct_refusal s a) (whole_of a)

  withdraw-same : withdraw_before (bare s) ≡ bare_after_withdraw (withdraw_of s)
  unfolding withdraw_before bare_after_withdraw withdraw_of
  withdraw-same = ap (λ n. bare_after_withdraw (withdraw_by n (bare s))) (withdraw-number s h) ∙ withdraw-by s (withdraw_refusal s)

  refine-same : (floats : List Float) → refine_before (bare s) floats ≡ bare_after_round (refine_of s floats)
  unfolding refine_before bare_after_round refine_of later_round estimate_of
  refine-same floats = ap (λ n. bare_after_round (refine_by n (bare s) (later_round s floats))) (refine-number s h floats) ∙ refine-by s (refine_refusal s floats) (later_round s floats)

  same : (call : Call) → (event before (bare s) call ≡ event ours s call) × (step before (bare s) call ≡ bare (step ours s call))
  unfolding bare_after_predict bare_after_correct bare_after_withdraw bare_after_round
  same predict = (ap (λ r. predicting r.answer) predict-same, ap (λ r. r.session) predict-same)
  same (correct a) = (ap (λ r. correcting a r.answer) (correct-same a), ap (λ r. r.session) (correct-same a))
  same withdraw = (ap (λ r. withdrawing r.answer) withdraw-same, ap (λ r. r.session) withdraw-same)
  same (refine floats) = (ap (λ r. refining floats r.answer) (refine-same floats), ap (λ r. r.session) (refine-same floats))

-- ---- histories

kept : (s : Session) → HeldTrue s → (calls : List Call) → HeldTrue (after ours s calls)
kept s h [] = h
kept s h (call ∷ calls) =
    let t = after ours s calls in
    let k = kept s h calls in
    ⊎_elim (λ e. subst HeldTrue (sym e) k) (λ v. v) ((held_after ours leave).steps t call)

after-bare : (s : Session) → HeldTrue s → (calls : List Call) → after before (bare s) calls ≡ bare (after ours s calls)
after-bare s h [] = refl
after-bare s h (call ∷ calls) = ap (λ t. step before t call) (after-bare s h calls) ∙ (same (after ours s calls) (kept s h calls) call).1

histories : (s : Session) → HeldTrue s → (calls : List Call) → history before (bare s) calls ≡ history ours s calls
histories s h [] = refl
histories s h (call ∷ calls) =
    ap₂ (λ e es. e ∷ es) (ap (λ t. event before t call) (after-bare s h calls) ∙ (same (after ours s calls) (kept s h calls) call).0) (histories s h calls)

lives : (s : Session) → HeldTrue s → (acts : List Act) → lived before (bare s) acts ≡ bare (lived ours s acts)
unfolding open_before start_before
lives s h [] = refl
lives s h (opening r ∷ acts) = refl
lives s h (beginning r ∷ acts) = refl
lives s h (calling call ∷ acts) = ap (λ t. step before t call) (lives s h acts) ∙ (same (lived ours s acts) ((held_after ours leave).always s h acts) call).1

pub unchanged : Unchanged ours before
unfolding open_before start_before
unchanged = record { opens = λ s t r. (refl, refl); starts = λ s t r. (refl, refl); steps = same; histories = histories; lives = lives }
