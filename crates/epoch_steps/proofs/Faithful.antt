-- Every answer that a round gives is faithful, and a change of a later one that asks for more is reported above zero.
use mathlib.Core.Path.{◌≡◌, refl, sym, subst}
use mathlib.Core.Bool.{Bool, true, false, cond}
use mathlib.Core.List.{List, [], ◌∷◌, ◌++◌}
use Prim.Native.Nat.{ℕ, zero, suc, ◌-◌, ◌<◌}
use native.Mathlib.Omega.{arith}
use lib.Ieee.{Float}
use lib.ListN.{replicate}
use Rattle.axis.specs.Kinds.{Kind}
use Rattle.session.specs.declared.Session.{Session}
use Rattle.session.specs.Ready.{PlacedPoint}
use Rattle.epoch_session.specs.declared.Round.{Round}
use Rattle.epoch_session.specs.Rounds.{earlier_point, round_in_range, rounds_agree, largest_move}
use Rattle.epoch_session.specs.Records.{held_round}
use Rattle.epoch_session.proofs.Ready.{round-placed}
use Rattle.steps.specs.declared.ReportedMotion.{ReportedMotion}
use Rattle.steps.specs.declared.ReportedPoint.{ReportedPoint}
use Rattle.steps.specs.Answers.{no_point, no_change, reported_change}
use Rattle.steps.specs.Faithful.{FaithfulMotion}
use Rattle.session.specs.Requests.{Request}
use Rattle.steps.proofs.Faithful.{point, no-point, change, no_change_lem, ReportedOver, reported-over}
use Rattle.epoch_steps.specs.declared.Outcome.TheVariants.{More}
use Rattle.epoch_steps.specs.Answers.{points_from, round_points, no_points, values, outcome_values, round_answer}
use Rattle.epoch_steps.specs.Faithful.{FaithfulPoints, FaithfulRound}
use Rattle.epoch_steps.specs.Refusals.{first_round, start_refusal, later_round, refine_refusal}
use Rattle.epoch_steps.specs.Steps.{start_answer_by, start_of, refine_of, refine_answer_by}
use Rattle.epoch_steps.proofs.Answered.{start-answers, refine-answers}
use Rattle.epoch_steps.proofs.Refusals.{started-points, refined-points}
use Rattle.epoch_steps.proofs.Changes.{moved-within, more-over}

-- ---- nine places

all_of : (ps qs : List ReportedPoint) → FaithfulPoints ps → FaithfulPoints qs → FaithfulPoints (ps ++ qs)
all_of [] qs h k = k
all_of (p ∷ ps) qs h k = (h.0, all_of ps qs h.1 k)

empty-places : (n : ℕ) → FaithfulPoints (replicate n no_point)
empty-places zero = tt
empty-places (suc n) = (no-point, empty-places n)

points-from : (r : Round) (n : ℕ) → ((j : ℕ) → j < n → PlacedPoint (earlier_point r j)) → FaithfulPoints (points_from r n)
unfolding points_from
points-from r zero h = tt
points-from r (suc n) h = (point (earlier_point r n) (h n (omega arith)), points-from r n (λ j l. h j (omega arith)))

round-points : (r : Round) → round_in_range r ≡ true → FaithfulPoints (round_points r)
unfolding round_points
round-points r t = all_of (points_from r r.points) (replicate (9 - r.points) no_point) (points-from r r.points (round-placed r t)) (empty-places (9 - r.points))

no-points : FaithfulPoints no_points
unfolding no_points
no-points = empty-places 9

-- ---- answers

pub start-faithful : (r : Request) → FaithfulRound (round_answer (start_of r).answer)
start-faithful r = subst FaithfulRound (sym (start-answers r)) (go (start_refusal r) refl)
  where
    go : (n : ℕ) → start_refusal r ≡ n → FaithfulRound (start_answer_by n (first_round r))
    go zero e = record { track = round-points (first_round r) (started-points r e); change = no_change_lem }
    go (suc n) e = record { track = no-points; change = no_change_lem }

module _ (s : Session) (floats : List Float) where
  abbrev later : Round
  later = later_round s floats

  abbrev moved : Kind → ℕ
  moved = largest_move later (held_round s)

  pub refine-faithful : FaithfulRound (round_answer (refine_of s floats).answer)
  refine-faithful = subst FaithfulRound (sym (refine-answers s floats)) (go (refine_refusal s floats) refl)
    where
      by : (t : Bool) → FaithfulPoints (round_points later) → FaithfulMotion (reported_change moved) → FaithfulRound (values 0 (cond t 3 2) (cond t no_change (reported_change moved)) (round_points later))
      by true p c = record { track = p; change = no_change_lem }
      by false p c = record { track = p; change = c }

      go : (n : ℕ) → refine_refusal s floats ≡ n → FaithfulRound (refine_answer_by n s later)
      go zero e =
          by (rounds_agree s.tolerances later (held_round s)) (round-points later (refined-points s floats e)) (change moved (moved-within s floats e))
      go (suc n) e = record { track = no-points; change = no_change_lem }

  -- a change that a later round carries is over its tolerance, and reported above zero
  pub more-reported-over : (c : ReportedMotion) → (refine_of s floats).answer.outcome ≡ More c → ReportedOver s.tolerances c
  more-reported-over c e =
      let (f, h) = more-over s floats c e in
      reported-over s.tolerances c moved f h (subst (λ t. FaithfulRound (outcome_values t (refine_of s floats).answer.track)) e refine-faithful).change
