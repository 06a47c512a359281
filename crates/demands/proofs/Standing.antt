-- A record that stands at the closed form gives its points, and goes on standing there: at the beginning, with another estimate, one point on.
use mathlib.Core.Path.{◌≡◌, refl, sym, ap, ◌∙◌}
use mathlib.Core.List.{List, [], ◌∷◌}
use Prim.Native.Nat.{ℕ, zero, suc, ◌-◌, ◌≤◌, ◌<◌}
use native.Mathlib.Omega.{arith}
use lib.IntN.{ℤ, ◌+ℤ◌, ◌-ℤ◌}
use Rattle.integers.specs.Tactics.{atom, terms, ring}
use Rattle.integers.specs.Differences.{at, in_front, by_differences}
use Rattle.integers.proofs.Differences.{same_first, at-taken}
use Rattle.exact.specs.Numerator.{numerator}
use Rattle.exact.proofs.Laws.{numerator-exact_of}
use Rattle.coefficients.specs.Formulas.{position_corrector, velocity_corrector, weights_of}
use Rattle.coefficients.specs.declared.Formula.{Formula}
use Rattle.coefficients.specs.declared.Formula.TheVariants.{PositionPredictor, PositionCorrector, VelocityPredictor, VelocityCorrector}
use Rattle.coefficients.proofs.Rows.{length-weights}
use Rattle.ticks.specs.declared.WholeSample.{WholeSample}
use Rattle.axis.specs.declared.Motion.{Motion}
use Rattle.axis.specs.Formulas.{S1, S2, ticks, motion_of, still, present_motion, predicted_motion, corrected_motion, kept_samples, advanced_axis}
use Rattle.axis.specs.Estimates.{estimating}
use Rattle.session.specs.declared.Point.{Point}
use Rattle.session.specs.declared.Session.{Session}
use Rattle.session.specs.Moves.{present_point, predicted_point, corrected_point, settled_again, awaiting_at, accepted_at}
use Rattle.steps.specs.Answers.{reported_motion, reported_point}
use Rattle.demands.specs.Coordinates.{reported_on}
use Rattle.session.specs.Coordinates.{on_x, on_y, on_z, Coordinate, axis_of, ticks_on, motion_on}
use Rattle.demands.specs.ClosedForm.{Origin, Begins, samples, first_sum, second_before, second_sum, position_at, velocity_at, next_position, next_velocity, Stands, Carries, Predicts, Corrects}
use Rattle.session.proofs.Coordinates.{settled-axis, awaiting-axis, accepted-axis, present-on, predicted-on, corrected-on}
use Rattle.demands.proofs.Records.{open-filled}

-- ---- motions by their numerators

pub numerator-position : (x v : ℤ) → numerator (motion_of x v).position ≡ x
unfolding motion_of
numerator-position x v = numerator-exact_of x

pub numerator-velocity : (x v : ℤ) → numerator (motion_of x v).velocity ≡ v
unfolding motion_of
numerator-velocity x v = numerator-exact_of v

-- ---- a formula for p points reads the newest p samples

reads : (f : Formula) (p : ℕ) → p ≤ 9 → (x y : ℕ → ℤ) → ((i : ℕ) → i < p → x i ≡ y i) → by_differences (weights_of f p) x ≡ by_differences (weights_of f p) y
reads f p h x y e = same_first (weights_of f p) x y (λ i l. e i (omega (arith, length-weights f p h)))

-- S2(n-1) out of S2(n)
before : (b f x : ℤ) → (b +ℤ f) -ℤ f +ℤ x ≡ b +ℤ x
before b f x = rw (atom 0 b, atom 1 f, atom 2 x) (simp terms (ring _ _ refl))

module _ (o : Origin) (ws : List WholeSample) (s : Session) (small : o.points ≤ 9) (h : Stands o ws s) (k : Coordinate) where
  -- each of the four sums over the record's samples
  sum : (f : Formula) → by_differences (weights_of f s.points) (at (axis_of k s).samples) ≡ by_differences (weights_of f o.points) (samples o k ws)
  sum f = ap (λ p. by_differences (weights_of f p) (at (axis_of k s).samples)) h.points ∙ reads f o.points small (at (axis_of k s).samples) (samples o k ws) (h.samples k)

  in-front : (w : WholeSample) (i : ℕ) → i < o.points → in_front (ticks_on k w) (at (axis_of k s).samples) i ≡ samples o k (w ∷ ws) i
  in-front w zero l = refl
  in-front w (suc i) l = h.samples k i (omega arith)

  sum-in-front : (f : Formula) (w : WholeSample) →
      by_differences (weights_of f s.points) (in_front (ticks_on k w) (at (axis_of k s).samples)) ≡ by_differences (weights_of f o.points) (samples o k (w ∷ ws))
  sum-in-front f w =
      ap (λ p. by_differences (weights_of f p) (in_front (ticks_on k w) (at (axis_of k s).samples))) h.points
      ∙ reads f o.points small (in_front (ticks_on k w) (at (axis_of k s).samples)) (samples o k (w ∷ ws)) (in-front w)

  pub present-is : motion_on k (present_point s) ≡ motion_of (position_at o k ws) (velocity_at o k ws)
  unfolding present_motion position_at velocity_at
  present-is =
      present-on s k
      ∙ (λ i. motion_of (h.second k i -ℤ h.first k i +ℤ sum PositionCorrector i) (h.first k i +ℤ sum VelocityCorrector i))
      ∙ ap (λ x. motion_of x (velocity_at o k ws)) (before (second_before o k ws) (first_sum o k ws) _)

  pub prediction-is : motion_on k (predicted_point s) ≡ motion_of (next_position o k ws) (next_velocity o k ws)
  unfolding predicted_motion next_position next_velocity
  prediction-is = predicted-on s k ∙ (λ i. motion_of (h.second k i +ℤ sum PositionPredictor i) (h.first k i +ℤ sum VelocityPredictor i))

  pub correction-is : (w : WholeSample) → motion_on k (corrected_point s w) ≡ motion_of (position_at o k (w ∷ ws)) (velocity_at o k (w ∷ ws))
  unfolding corrected_motion position_at velocity_at second_before first_sum
  correction-is w =
      corrected-on s w k
      ∙ (λ i. motion_of (h.second k i +ℤ sum-in-front PositionCorrector w i) (h.first k i +ℤ ticks (ticks_on k w) +ℤ sum-in-front VelocityCorrector w i))

-- ---- the answers

pub reported-on : (q : Point) (k : Coordinate) → reported_on k (reported_point q) ≡ reported_motion (motion_on k q)
unfolding reported_point
reported-on q on_x = refl
reported-on q on_y = refl
reported-on q on_z = refl

-- a point that is reported carries its exact values
carries : (q : Point) (x v : Coordinate → ℤ) → ((k : Coordinate) → motion_on k q ≡ motion_of (x k) (v k)) → Carries (reported_point q) x v
unfolding reported_motion
carries q x v h =
    record {
      position = λ k. ap (λ m. numerator m.position.exact) (reported-on q k ∙ ap reported_motion (h k)) ∙ numerator-position (x k) (v k);
      velocity = λ k. ap (λ m. numerator m.velocity.exact) (reported-on q k ∙ ap reported_motion (h k)) ∙ numerator-velocity (x k) (v k);
    }

module _ (o : Origin) (ws : List WholeSample) (s : Session) (small : o.points ≤ 9) (h : Stands o ws s) where
  pub predicts : Predicts o ws (reported_point (predicted_point s))
  predicts = carries (predicted_point s) (λ k. next_position o k ws) (λ k. next_velocity o k ws) (prediction-is o ws s small h)

  pub corrects : (w : WholeSample) → Corrects o (w ∷ ws) (reported_point (corrected_point s w))
  corrects w = carries (corrected_point s w) (λ k. position_at o k (w ∷ ws)) (λ k. velocity_at o k (w ∷ ws)) (λ k. correction-is o ws s small h k w)

-- ---- at the beginning

pub points-most : (o : Origin) (s : Session) → Begins o s → o.points ≤ 9
points-most o s b = let h = (open-filled s b.held).points in omega (arith, h.1, b.points)

module _ (o : Origin) (s : Session) (b : Begins o s) (k : Coordinate) where
  begun-sum : (f : Formula) → by_differences (weights_of f s.points) (at (axis_of k s).samples) ≡ by_differences (weights_of f o.points) (at (o.samples k))
  begun-sum f = ap (λ p. by_differences (weights_of f p) (at (axis_of k s).samples)) b.points ∙ reads f o.points (points-most o s b) (at (axis_of k s).samples) (at (o.samples k)) (b.samples k)

  -- the present point, with the origin's samples
  begun-position : S2 (axis_of k s) -ℤ S1 (axis_of k s) +ℤ by_differences (position_corrector o.points) (at (o.samples k)) ≡ o.position k
  unfolding present_motion
  begun-position =
      sym (ap (λ x. S2 (axis_of k s) -ℤ S1 (axis_of k s) +ℤ x) (begun-sum PositionCorrector))
      ∙ sym (numerator-position _ (S1 (axis_of k s) +ℤ by_differences (velocity_corrector s.points) (at (axis_of k s).samples)))
      ∙ sym (ap (λ m. numerator m.position) (present-on s k))
      ∙ b.position k

  begun-velocity : S1 (axis_of k s) +ℤ by_differences (velocity_corrector o.points) (at (o.samples k)) ≡ o.velocity k
  unfolding present_motion
  begun-velocity =
      sym (ap (λ x. S1 (axis_of k s) +ℤ x) (begun-sum VelocityCorrector))
      ∙ sym (numerator-velocity (S2 (axis_of k s) -ℤ S1 (axis_of k s) +ℤ by_differences (position_corrector s.points) (at (axis_of k s).samples)) _)
      ∙ sym (ap (λ m. numerator m.velocity) (present-on s k))
      ∙ b.velocity k

  begun_first : S1 (axis_of k s) ≡ first_sum o k []
  unfolding first_sum
  begun_first = move (S1 (axis_of k s)) _ ∙ ap (λ v. v -ℤ by_differences (velocity_corrector o.points) (at (o.samples k))) begun-velocity
    where
      move : (a c : ℤ) → a ≡ (a +ℤ c) -ℤ c
      move a c = rw (atom 0 a, atom 1 c) (simp terms (ring _ _ refl))

  begun-second : S2 (axis_of k s) ≡ second_sum o k []
  unfolding second_before
  begun-second =
      move (S2 (axis_of k s)) (S1 (axis_of k s)) (by_differences (position_corrector o.points) (at (o.samples k)))
      ∙ (λ i. (begun-position i -ℤ by_differences (position_corrector o.points) (at (o.samples k))) +ℤ begun_first i)
    where
      move : (a b c : ℤ) → a ≡ ((a -ℤ b +ℤ c) -ℤ c) +ℤ b
      move a b c = rw (atom 0 a, atom 1 b, atom 2 c) (simp terms (ring _ _ refl))

pub begun : (o : Origin) (s : Session) → Begins o s → Stands o [] s
begun o s b = record { points = b.points; first = begun_first o s b; second = begun-second o s b; samples = b.samples }

-- ---- with other estimates

re-estimated : (o : Origin) (ws : List WholeSample) (s t : Session) (m : Coordinate → Motion) → Stands o ws s → t.points ≡ s.points → ((k : Coordinate) → axis_of k t ≡ estimating (axis_of k s) (m k)) → Stands o ws t
re-estimated o ws s t m h p e =
    record {
      points = p ∙ h.points;
      first = λ k. ap S1 (e k) ∙ h.first k;
      second = λ k. ap S2 (e k) ∙ h.second k;
      samples = λ k i l. ap (λ a. at a.samples i) (e k) ∙ h.samples k i l;
    }

module _ (o : Origin) (ws : List WholeSample) (s : Session) (h : Stands o ws s) where
  pub settled-stands : Stands o ws (settled_again s)
  unfolding settled_again
  settled-stands = re-estimated o ws s (settled_again s) (λ k. still) h refl (settled-axis s)

  pub awaiting-stands : (n : ℕ) (q : Point) → Stands o ws (awaiting_at s n q)
  unfolding awaiting_at
  awaiting-stands n q = re-estimated o ws s (awaiting_at s n q) (λ k. motion_on k q) h refl (awaiting-axis s n q)

-- ---- one point on

module _ (o : Origin) (ws : List WholeSample) (s : Session) (h : Stands o ws s) (w : WholeSample) where
  next-first : (k : Coordinate) → S1 (advanced_axis s.points (axis_of k s) (ticks_on k w)) ≡ first_sum o k (w ∷ ws)
  unfolding advanced_axis first_sum
  next-first k = numerator-exact_of _ ∙ ap (λ f. f +ℤ ticks (ticks_on k w)) (h.first k)

  next-second : (k : Coordinate) → S2 (advanced_axis s.points (axis_of k s) (ticks_on k w)) ≡ second_sum o k (w ∷ ws)
  unfolding advanced_axis first_sum second_before
  next-second k = numerator-exact_of _ ∙ (λ i. h.second k i +ℤ (h.first k i +ℤ ticks (ticks_on k w)))

  next-samples : (k : Coordinate) (i : ℕ) → i < o.points → at (advanced_axis s.points (axis_of k s) (ticks_on k w)).samples i ≡ samples o k (w ∷ ws) i
  unfolding advanced_axis kept_samples
  next-samples k i l = at-taken s.points (9 - s.points) (ticks_on k w ∷ (axis_of k s).samples) i (omega (arith, h.points)) ∙ newer i l
    where
      newer : (i : ℕ) → i < o.points → at (ticks_on k w ∷ (axis_of k s).samples) i ≡ samples o k (w ∷ ws) i
      newer zero l = refl
      newer (suc i) l = h.samples k i (omega arith)

  pub accepted-stands : Stands o (w ∷ ws) (accepted_at s w)
  unfolding accepted_at
  accepted-stands =
      record {
        points = h.points;
        first = λ k. ap S1 (accepted-axis s w k) ∙ next-first k;
        second = λ k. ap S2 (accepted-axis s w k) ∙ next-second k;
        samples = λ k i l. ap (λ a. at a.samples i) (accepted-axis s w k) ∙ next-samples k i l;
      }
