-- Where a session begins, and what its record holds and its answers tell after any accepted samples: a function of the two alone.
-- Positions, velocities and sums are numerators over D; lists of samples have the latest first. Definitions only.
use Rattle.std.specs.Prelude.{◌≡◌, List, [], ◌∷◌, ℕ, ◌<◌, ℤ, ◌+ℤ◌, ◌-ℤ◌, Float, Ok, Err}
use Rattle.integers.specs.Differences.{at, in_front, by_differences}
use Rattle.coefficients.specs.Formulas.{position_predictor, position_corrector, velocity_predictor, velocity_corrector}
use Rattle.ticks.specs.declared.WholeSample.{WholeSample}
use Rattle.ticks.specs.Samples.{whole_of}
use Rattle.axis.specs.Formulas.{S1, S2, ticks}
use Rattle.session.specs.declared.Session.{Session}
use Rattle.session.specs.declared.Point.{Point}
use Rattle.session.specs.Moves.{present_point}
use Rattle.steps.specs.declared.ReportedPoint.{ReportedPoint}
use Rattle.steps.specs.declared.Correction.TheVariants as C
use Rattle.session.specs.Requests.{exact_point, Request}
use Rattle.steps.specs.Opening.{axis_samples}
use Rattle.epoch_session.specs.Rounds.{earlier_point}
use Rattle.epoch_steps.specs.Refusals.{later_round}
use Rattle.demands.specs.Coordinates.{position_of, velocity_of, position_in, velocity_in}
use Rattle.session.specs.Coordinates.{Coordinate, on_x, on_y, on_z, axis_of, ticks_on}
use Rattle.demands.specs.Records.{OpenRecord}
use Rattle.demands.specs.Histories.{Event, predicting, correcting, withdrawing, refining, entries, samples_of}

-- ---- an opening, whatever way it was made: p, the exact position and velocity of point 0, and the samples a(0), a(-1), .., a(1-p)

pub record Origin : Type 0 where
  pub points : ℕ
  pub position : Coordinate → ℤ
  pub velocity : Coordinate → ℤ
  pub samples : Coordinate → List ℤ

-- an open record that stands at that point and keeps those samples
pub record Begins (o : Origin) (s : Session) : Type 0 where
  pub held : OpenRecord s
  pub points : s.points ≡ o.points
  pub position : (k : Coordinate) → position_of k (present_point s) ≡ o.position k
  pub velocity : (k : Coordinate) → velocity_of k (present_point s) ≡ o.velocity k
  pub samples : (k : Coordinate) (i : ℕ) → i < o.points → at (axis_of k s).samples i ≡ at (o.samples k) i

abbrev pub origin_at : ℕ → Point → (Coordinate → List ℤ) → Origin
origin_at p q samples = record { points = p; position = λ k. position_of k q; velocity = λ k. velocity_of k q; samples = samples }

-- the rounded opening samples of a coordinate
abbrev pub place : Coordinate → ℕ
place on_x = 0
place on_y = 1
place on_z = 2

abbrev pub opening_samples : Request → Coordinate → List ℤ
opening_samples r k = axis_samples r.points (place k) r.floats

-- the opening that an `open` asks for
abbrev pub origin : Request → Origin
origin r = origin_at r.points (exact_point r.point) (opening_samples r)

-- the opening that a later round gives where it opens: the round's newest point, and its samples
abbrev pub start_origin : Session → List Float → Origin
start_origin s floats = origin_at s.points (earlier_point (later_round s floats) 0) (λ k. axis_samples s.points (place k) floats)

-- ---- the sums and the points, with the samples ws accepted since

module _ (o : Origin) (k : Coordinate) where
  -- a(n), a(n-1), ..: the accepted samples, and then the opening's
  abbrev pub samples : List WholeSample → ℕ → ℤ
  samples [] = at (o.samples k)
  samples (w ∷ ws) = in_front (ticks_on k w) (samples ws)

  -- S1(n): the opening's is what the corrector leaves of its velocity, and each sample enters once
  unfoldable pub first_sum : List WholeSample → ℤ
  first_sum [] = o.velocity k -ℤ by_differences (velocity_corrector o.points) (samples [])
  first_sum (w ∷ ws) = first_sum ws +ℤ ticks (ticks_on k w)

  -- S2(n-1): the opening's is what the corrector leaves of its position
  unfoldable pub second_before : List WholeSample → ℤ
  second_before [] = o.position k -ℤ by_differences (position_corrector o.points) (samples [])
  second_before (w ∷ ws) = second_before ws +ℤ first_sum ws

  -- S2(n) = S2(n-1) + S1(n)
  abbrev pub second_sum : List WholeSample → ℤ
  second_sum ws = second_before ws +ℤ first_sum ws

  -- the corrected position and velocity at n
  unfoldable pub position_at : List WholeSample → ℤ
  position_at ws = second_before ws +ℤ by_differences (position_corrector o.points) (samples ws)

  unfoldable pub velocity_at : List WholeSample → ℤ
  velocity_at ws = first_sum ws +ℤ by_differences (velocity_corrector o.points) (samples ws)

  -- the predicted ones at n+1
  unfoldable pub next_position : List WholeSample → ℤ
  next_position ws = second_sum ws +ℤ by_differences (position_predictor o.points) (samples ws)

  unfoldable pub next_velocity : List WholeSample → ℤ
  next_velocity ws = first_sum ws +ℤ by_differences (velocity_predictor o.points) (samples ws)

-- the record has those sums, and keeps the newest p of those samples
pub record Stands (o : Origin) (ws : List WholeSample) (s : Session) : Type 0 where
  pub points : s.points ≡ o.points
  pub first : (k : Coordinate) → S1 (axis_of k s) ≡ first_sum o k ws
  pub second : (k : Coordinate) → S2 (axis_of k s) ≡ second_sum o k ws
  pub samples : (k : Coordinate) (i : ℕ) → i < o.points → at (axis_of k s).samples i ≡ samples o k ws i

-- ---- what the answers of a history tell

-- the exact values that an answer carries
pub record Carries (q : ReportedPoint) (x v : Coordinate → ℤ) : Type 0 where
  pub position : (k : Coordinate) → position_in k q ≡ x k
  pub velocity : (k : Coordinate) → velocity_in k q ≡ v k

-- the prediction with ws accepted before, and the correction with the first of ws for its sample
abbrev pub Predicts : Origin → List WholeSample → ReportedPoint → Type 0
Predicts o ws q = Carries q (λ k. next_position o k ws) (λ k. next_velocity o k ws)

abbrev pub Corrects : Origin → List WholeSample → ReportedPoint → Type 0
Corrects o ws q = Carries q (λ k. position_at o k ws) (λ k. velocity_at o k ws)

abbrev pub Tells : Origin → List WholeSample → Event → Type 0
Tells o ws (predicting (Ok q)) = Predicts o ws q
Tells o ws (predicting (Err n)) = Unit {0}
Tells o ws (correcting a (C.Accepted q)) = Corrects o (whole_of a ∷ ws) q
Tells o ws (correcting a (C.Again q c)) = Corrects o (whole_of a ∷ ws) q
Tells o ws (correcting a (C.Refused n)) = Unit {0}
Tells o ws (withdrawing r) = Unit {0}
Tells o ws (refining floats r) = Unit {0}

-- every answer carries the formulas' point for the samples accepted before it
abbrev pub Told : Origin → List Event → Type 0
Told o [] = Unit {0}
Told o (e ∷ es) = Tells o (samples_of (entries es)) e × Told o es
