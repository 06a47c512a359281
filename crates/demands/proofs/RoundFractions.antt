-- Demand 2 in fractions, of rounds: the points of a round, which are numerators over D, are those of the series at their places, and the sums run by their rules.
use mathlib.Core.Path.{◌≡◌, refl, sym, ap, subst, ◌∙◌}
use mathlib.Core.Bool.{Bool, true, false}
use mathlib.Core.List.{List, [], ◌∷◌, ◌++◌}
use Prim.Native.Nat.{ℕ, zero, suc, ◌+◌, ◌*◌, ◌-◌, ◌≤◌, ◌<◌}
use native.Mathlib.Omega.{arith}
use lib.IntN.{ℤ, pos, ◌+ℤ◌, ◌-ℤ◌}
use lib.Ieee.{Float}
use lib.ListN.{take, replicate, get_or}
use Rattle.integers.specs.Differences.{at, by_differences}
use Rattle.integers.proofs.Differences.{past-taken}
use Rattle.exact.specs.Numerator.{D, numerator}
use Rattle.exact.proofs.Laws.{numerator-exact_of}
use Rattle.coefficients.specs.Fraction.{◌over◌}
use Rattle.epoch_coefficients.specs.Formulas.{has_centre, earlier_position, earlier_velocity}
use Rattle.epoch_coefficients.proofs.Applied.{position-applied, velocity-applied}
use Rattle.epoch_coefficients.proofs.Centre.{at-most-9}
use Rattle.epoch_coefficients.proofs.Times.{Times, sum}
use Rattle.ticks.specs.Round.{rounded_of, ticks_in}
use Rattle.axis.specs.declared.Axis.{Axis}
use Rattle.axis.specs.Formulas.{ticks, places}
use Rattle.axis.proofs.Points.{forth}
use Rattle.epoch_axis.specs.Formulas.{back_sums, run_back, newest_sums, earlier_motion, centre}
use Rattle.epoch_axis.proofs.Started.{centre-below}
use Rattle.session.specs.declared.Point.{Point}
use Rattle.session.specs.declared.Session.{Session}
use Rattle.session.specs.Coordinates.{Coordinate, on_x, on_y, on_z, motion_on}
use Rattle.session.specs.Moves.{estimate_of}
use Rattle.session.specs.Ready.{PlacedPoint}
use Rattle.session.specs.Requests.{exact_point, Request}
use Rattle.steps.specs.Answers.{reported_motion, reported_point, no_point}
use Rattle.steps.proofs.Given.{exact-point-placed}
use Rattle.steps.specs.Opening.{axis_samples}
use Rattle.epoch_session.specs.declared.Round.{Round}
use Rattle.epoch_session.specs.Rounds.{earlier_point, rounds_agree}
use Rattle.epoch_session.specs.Records.{held_round}
use Rattle.epoch_session.proofs.Rules.{starting-round}
use Rattle.epoch_steps.specs.Answers.{round_points}
use Rattle.epoch_steps.specs.Refusals.{given_round, first_round, start_refusal, later_round, refine_refusal}
use Rattle.epoch_steps.specs.Steps.{start_by, start_of, judged_round, refine_by, refine_of}
use Rattle.epoch_steps.proofs.Given.{given-points, given-samples, given-centre}
use Rattle.epoch_steps.proofs.Places.{point_at}
use Rattle.epoch_steps.proofs.Refusals.{started-centred, started-range, refined-starting}
use Rattle.demands.specs.Coordinates.{position_of, velocity_of, position_in, velocity_in}
use Rattle.demands.specs.ClosedForm.{place}
use Rattle.demands.specs.Histories.{ours}
use Rattle.demands.specs.Fractions.{RoundInTicks, AnsweredRound, InFractions}
use Rattle.demands.specs.Fractions as F
use Rattle.demands.proofs.Standing.{numerator-position, numerator-velocity, reported-on}
use Rattle.demands.proofs.Fractions.{over-D, whole, told-in-ticks}
use Rattle.demands.proofs.Rounds.{start-number, refine-number}

-- ---- one axis at its newest point

module _ (p : ℕ) (small : p ≤ 9) (a : Axis) where
  abbrev samples : ℕ → ℤ
  samples = at a.samples

  -- S1 at j steps before the newest point, and S2 at one step more
  abbrev first : ℕ → ℤ
  first j = numerator (run_back samples j (newest_sums a)).first

  abbrev before : ℕ → ℤ
  before j = numerator (run_back samples j (newest_sums a)).before

  first_back : (j : ℕ) → first (suc j) ≡ first j -ℤ ticks (samples j)
  unfolding run_back back_sums
  first_back j = numerator-exact_of (first j -ℤ ticks (samples j))

  before_back : (j : ℕ) → before (suc j) ≡ before j -ℤ first (suc j)
  unfolding run_back back_sums
  before_back j = numerator-exact_of (before j -ℤ (first j -ℤ ticks (samples j))) ∙ sym (ap (λ z. before j -ℤ z) (numerator-exact_of (first j -ℤ ticks (samples j))))

  abbrev second : ℕ → ℤ
  second zero = before 0 +ℤ first 0
  second (suc j) = before j

  firsts : (j : ℕ) → first (suc j) +ℤ ticks (samples j) ≡ first j
  firsts j = ap (λ z. z +ℤ ticks (samples j)) (first_back j) ∙ forth (first j) (ticks (samples j))

  seconds : (j : ℕ) → second (suc j) +ℤ first j ≡ second j
  seconds zero = refl
  seconds (suc j) = ap (λ z. z +ℤ first (suc j)) (before_back j) ∙ forth (before j) (first (suc j))

  position_at : (j : ℕ) → numerator (earlier_motion p a j).position ≡ before j +ℤ by_differences (earlier_position j p) samples
  unfolding earlier_motion
  position_at j = numerator-position _ _

  velocity-at : (j : ℕ) → numerator (earlier_motion p a j).velocity ≡ first j +ℤ by_differences (earlier_velocity j p) samples
  unfolding earlier_motion
  velocity-at j = numerator-velocity _ _

  -- what is told of the points x(j) and v(j), where they are the axis'
  pub axis-in-ticks : (position velocity : ℤ) (x v : ℕ → ℤ) →
      ((j : ℕ) → j < p → x j ≡ numerator (earlier_motion p a j).position) → ((j : ℕ) → j < p → v j ≡ numerator (earlier_motion p a j).velocity) →
      x (centre p) ≡ position → v (centre p) ≡ velocity → RoundInTicks p position velocity samples x v
  axis-in-ticks position velocity x v e f g h =
      record {
        S1 = λ j. first j over D;
        S2 = λ j. second j over D;
        firsts = λ j. (subst (Times D _) (firsts j) (sum (over-D (first (suc j))) (whole (samples j)))).across;
        seconds = λ j. (subst (Times D _) (seconds j) (sum (over-D (second (suc j))) (over-D (first j)))).across;
        positions = λ j l. (subst (Times D _) (sym (e j l ∙ position_at j)) (sum (over-D (before j)) (position-applied p small j samples))).across;
        velocities = λ j l. (subst (Times D _) (sym (f j l ∙ velocity-at j)) (sum (over-D (first j)) (velocity-applied p small j samples))).across;
        epoch_position = g;
        epoch_velocity = h;
      }

-- ---- a round

abbrev round_axis : Coordinate → Round → Axis
round_axis on_x r = r.x
round_axis on_y r = r.y
round_axis on_z r = r.z

module _ (r : Round) (j : ℕ) where
  earlier_on : (k : Coordinate) → motion_on k (earlier_point r j) ≡ earlier_motion r.points (round_axis k r) j
  unfolding earlier_point
  earlier_on on_x = refl
  earlier_on on_y = refl
  earlier_on on_z = refl

-- ---- the samples in nine places are those given, and 0 past them

at-padded : (xs : List ℤ) (n i : ℕ) → at (xs ++ replicate n (pos 0)) i ≡ at xs i
at-padded [] n i = past-taken 0 n [] i (omega arith)
at-padded (x ∷ xs) n zero = refl
at-padded (x ∷ xs) n (suc i) = at-padded xs n i

all-taken : (p k : ℕ) (floats : List Float) → take p (axis_samples p k floats) ≡ axis_samples p k floats
unfolding axis_samples
all-taken zero k floats = refl
all-taken (suc p) k floats = λ i. ticks_in (rounded_of (get_or floats (3 * p + k) Float.nan)) ∷ all-taken p k floats i

-- ---- a given round, answered

module _ (p : ℕ) (epoch : Point) (floats : List Float) where
  abbrev round : Round
  round = given_round p epoch floats

  placed_at : (k : Coordinate) → (round_axis k round).samples ≡ places p (axis_samples p (place k) floats)
  placed_at on_x = (given-samples p epoch floats).0
  placed_at on_y = (given-samples p epoch floats).1.0
  placed_at on_z = (given-samples p epoch floats).1.1

  samples-at : (k : Coordinate) → at (round_axis k round).samples ≡ at (axis_samples p (place k) floats)
  samples-at k = λ i n. (ap (λ xs. at xs n) (placed_at k) ∙ at-padded (take p (axis_samples p (place k) floats)) (9 - p) n ∙ ap (λ xs. at xs n) (all-taken p (place k) floats)) i

  -- the point j steps before the newest stands where it is looked for
  answered-at : (j : ℕ) → j < p → F.back p (round_points round) j ≡ reported_point (earlier_point round j)
  answered-at j l =
      let n = given-points p epoch floats in
      let e : round.points - 1 - (p - 1 - j) ≡ j = omega (arith, n, l) in
      point_at round (p - 1 - j) no_point (omega (arith, n, l)) ∙ ap (λ i. reported_point (earlier_point round i)) e

  position-answered : (k : Coordinate) (j : ℕ) → j < p → position_in k (F.back p (round_points round) j) ≡ position_of k (earlier_point round j)
  unfolding reported_motion
  position-answered k j l = ap (position_in k) (answered-at j l) ∙ ap (λ m. numerator m.position.exact) (reported-on (earlier_point round j) k)

  velocity-answered : (k : Coordinate) (j : ℕ) → j < p → velocity_in k (F.back p (round_points round) j) ≡ velocity_of k (earlier_point round j)
  unfolding reported_motion
  velocity-answered k j l = ap (velocity_in k) (answered-at j l) ∙ ap (λ m. numerator m.velocity.exact) (reported-on (earlier_point round j) k)

  motion-at : (k : Coordinate) (j : ℕ) → motion_on k (earlier_point round j) ≡ earlier_motion p (round_axis k round) j
  motion-at k j = earlier_on round j k ∙ ap (λ n. earlier_motion n (round_axis k round) j) (given-points p epoch floats)

  pub round-answered : has_centre p ≡ true → PlacedPoint epoch → AnsweredRound p epoch floats (round_points round)
  round-answered c h k =
      let below = centre-below p c in
      subst (λ a. RoundInTicks p (position_of k epoch) (velocity_of k epoch) a (λ j. position_in k (F.back p (round_points round) j)) (λ j. velocity_in k (F.back p (round_points round) j))) (samples-at k)
      (axis-in-ticks p (at-most-9 c) (round_axis k round) (position_of k epoch) (velocity_of k epoch) _ _
      (λ j l. position-answered k j l ∙ ap (λ m. numerator m.position) (motion-at k j))
      (λ j l. velocity-answered k j l ∙ ap (λ m. numerator m.velocity) (motion-at k j))
      (position-answered k (centre p) below ∙ ap (position_of k) (given-centre p epoch floats h))
      (velocity-answered k (centre p) below ∙ ap (velocity_of k) (given-centre p epoch floats h)))

-- ---- a first round, and a later one

module _ (r : Request) (e : start_refusal r ≡ 0) where
  first-track : (start_of r).answer.track ≡ round_points (first_round r)
  unfolding start_of
  first-track = ap (λ n. (start_by n r.tolerances r.limit (exact_point r.point) (first_round r)).answer.track) e

  pub first-answered : AnsweredRound r.points (exact_point r.point) r.floats (start_of r).answer.track
  first-answered =
      subst (AnsweredRound r.points (exact_point r.point) r.floats) (sym first-track)
      (round-answered r.points (exact_point r.point) r.floats (started-centred r e) (exact-point-placed r.point (started-range r e)))

module _ (s : Session) (floats : List Float) (e : refine_refusal s floats ≡ 0) where
  later-track : (refine_of s floats).answer.track ≡ round_points (later_round s floats)
  unfolding refine_of
  later-track = ap (λ n. (refine_by n s (later_round s floats)).answer.track) e ∙ judged (rounds_agree s.tolerances (later_round s floats) (held_round s))
    where
      judged : (b : Bool) → (judged_round b s (later_round s floats)).answer.track ≡ round_points (later_round s floats)
      judged true = refl
      judged false = refl

  pub later-answered : AnsweredRound s.points (estimate_of s) floats (refine_of s floats).answer.track
  unfolding later_round
  later-answered =
      let h = starting-round s (refined-starting s floats e) in
      subst (AnsweredRound s.points (estimate_of s) floats) (sym later-track) (round-answered s.points (estimate_of s) floats h.centred h.epoch)

pub in-fractions : InFractions ours
in-fractions =
    record {
      told = told-in-ticks;
      starts = λ s r e. first-answered r (sym (start-number r) ∙ e);
      refines = λ s floats e. later-answered s floats (sym (refine-number s floats) ∙ e);
    }
