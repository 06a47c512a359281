-- Demand 2 in fractions of a tick: each prediction and correction that was answered, accepted points among them, is what the stepping formulas give for the
-- rounded samples, with the coefficients of the rules; and each point of a round is what the series at its place give. Definitions only.
use Rattle.std.specs.Prelude.{◌≡◌, List, [], ◌∷◌, ℕ, suc, ◌-◌, ◌/◌, ◌<◌, ℤ, Float, get_or, Ok, Err}
use Rattle.integers.specs.Differences.{at}
use Rattle.exact.specs.Numerator.{D}
use Rattle.coefficients.specs.Fraction.{Fraction, ◌over◌, ◌⊕◌, ◌≐◌, negate}
use Rattle.coefficients.specs.Rules.{c, g, l, s}
use Rattle.coefficients.specs.Formulas.{series}
use Rattle.epoch_coefficients.specs.Series.{position_series, velocity_series}
use Rattle.ticks.specs.declared.WholeSample.{WholeSample}
use Rattle.ticks.specs.Samples.{whole_of}
use Rattle.session.specs.declared.Point.{Point}
use Rattle.session.specs.declared.Session.{Session}
use Rattle.session.specs.Coordinates.{Coordinate, ticks_on}
use Rattle.session.specs.Moves.{estimate_of}
use Rattle.session.specs.Requests.{exact_point, Request}
use Rattle.steps.specs.declared.ReportedPoint.{ReportedPoint}
use Rattle.steps.specs.declared.Correction.TheVariants as C
use Rattle.steps.specs.Answers.{no_point}
use Rattle.steps.specs.Opening.{axis_samples}
use Rattle.demands.specs.Coordinates.{position_of, velocity_of, position_in, velocity_in}
use Rattle.demands.specs.Histories.{Implementation, Call, history, Event, predicting, correcting, withdrawing, refining, entries, samples_of}
use Rattle.demands.specs.ClosedForm.{Origin, Begins, place, samples}
use Rattle.demands.specs.Demands.{start_number, refine_number}

infixl 71 ◌⊖◌
abbrev pub ◌⊖◌ : Fraction → Fraction → Fraction
p ⊖ q = p ⊕ negate q

-- ---- the sums and the points of a session with the samples ws accepted since its opening, in ticks

module _ (o : Origin) (k : Coordinate) where
  -- S1(n): at point 0 it is what the corrector's series leave of the velocity given, and then each sample enters once
  unfoldable pub first_in : List WholeSample → Fraction
  first_in [] = o.velocity k over D ⊖ series c 1 o.points (samples o k [])
  first_in (w ∷ ws) = first_in ws ⊕ ticks_on k w over 1

  -- S2(n-1): at point 0 it is what the corrector's series leave of the position given; S2(n) = S2(n-1) + S1(n)
  unfoldable pub before_in : List WholeSample → Fraction
  before_in [] = o.position k over D ⊖ series l 2 o.points (samples o k [])
  before_in (w ∷ ws) = before_in ws ⊕ first_in ws

  -- corrected at n: S2(n-1) + l(2) a(n) + .. + l(p+1) B^(p-1) a(n), and S1(n) + c(1) a(n) + .. + c(p) B^(p-1) a(n)
  abbrev pub corrected_position : List WholeSample → Fraction
  corrected_position ws = before_in ws ⊕ series l 2 o.points (samples o k ws)

  abbrev pub corrected_velocity : List WholeSample → Fraction
  corrected_velocity ws = first_in ws ⊕ series c 1 o.points (samples o k ws)

  -- predicted at n+1: S2(n) + s(2) a(n) + .. + s(p+1) B^(p-1) a(n), and S1(n) + g(1) a(n) + .. + g(p) B^(p-1) a(n)
  abbrev pub predicted_position : List WholeSample → Fraction
  predicted_position ws = before_in ws ⊕ first_in ws ⊕ series s 2 o.points (samples o k ws)

  abbrev pub predicted_velocity : List WholeSample → Fraction
  predicted_velocity ws = first_in ws ⊕ series g 1 o.points (samples o k ws)

-- ---- what the answers of a history tell

-- the exact values that an answer carries, in ticks
pub record Worth (q : ReportedPoint) (x v : Coordinate → Fraction) : Type 0 where
  pub position : (k : Coordinate) → position_in k q over D ≐ x k
  pub velocity : (k : Coordinate) → velocity_in k q over D ≐ v k

abbrev pub WorthPredicted : Origin → List WholeSample → ReportedPoint → Type 0
WorthPredicted o ws q = Worth q (λ k. predicted_position o k ws) (λ k. predicted_velocity o k ws)

-- the first of ws is the correction's own sample
abbrev pub WorthCorrected : Origin → List WholeSample → ReportedPoint → Type 0
WorthCorrected o ws q = Worth q (λ k. corrected_position o k ws) (λ k. corrected_velocity o k ws)

abbrev pub TellsInTicks : Origin → List WholeSample → Event → Type 0
TellsInTicks o ws (predicting (Ok q)) = WorthPredicted o ws q
TellsInTicks o ws (predicting (Err n)) = Unit {0}
TellsInTicks o ws (correcting a (C.Accepted q)) = WorthCorrected o (whole_of a ∷ ws) q
TellsInTicks o ws (correcting a (C.Again q c)) = WorthCorrected o (whole_of a ∷ ws) q
TellsInTicks o ws (correcting a (C.Refused n)) = Unit {0}
TellsInTicks o ws (withdrawing r) = Unit {0}
TellsInTicks o ws (refining floats r) = Unit {0}

abbrev pub ToldInTicks : Origin → List Event → Type 0
ToldInTicks o [] = Unit {0}
ToldInTicks o (e ∷ es) = TellsInTicks o (samples_of (entries es)) e × ToldInTicks o es

-- ---- a round on one coordinate: x(j) and v(j), numerators over D, at j steps before the newest of p points, from the epoch's and the samples a(0), a(1), ..

pub record RoundInTicks (p : ℕ) (position velocity : ℤ) (a x v : ℕ → ℤ) : Type 0 where
  -- S1 and S2 at j steps before the newest, by their rules
  pub S1 : ℕ → Fraction
  pub S2 : ℕ → Fraction
  pub firsts : (j : ℕ) → S1 j ≐ S1 (suc j) ⊕ a j over 1
  pub seconds : (j : ℕ) → S2 j ≐ S2 (suc j) ⊕ S1 j
  -- each point: the series of its place, cut after p terms, multiply the differences of the newest sample
  pub positions : (j : ℕ) → j < p → x j over D ≐ S2 (suc j) ⊕ series (position_series j) 0 p a
  pub velocities : (j : ℕ) → j < p → v j over D ≐ S1 j ⊕ series (velocity_series j) 0 p a
  -- the epoch is the centre's point, which fixes the sums
  pub epoch_position : x ((p - 1) / 2) ≡ position
  pub epoch_velocity : v ((p - 1) / 2) ≡ velocity

-- of the points that are answered for p places, the one j steps before the newest
abbrev pub back : ℕ → List ReportedPoint → ℕ → ReportedPoint
back p track j = get_or track (p - 1 - j) no_point

abbrev pub AnsweredRound : ℕ → Point → List Float → List ReportedPoint → Type 0
AnsweredRound p epoch floats track =
    (k : Coordinate) →
    RoundInTicks p (position_of k epoch) (velocity_of k epoch) (at (axis_samples p (place k) floats)) (λ j. position_in k (back p track j)) (λ j. velocity_in k (back p track j))

-- ---- the statement

pub record InFractions (I : Implementation) : Type 0 where
  pub told : (o : Origin) (s : Session) → Begins o s → (calls : List Call) → ToldInTicks o (history I s calls)
  pub starts : (s : Session) (r : Request) → start_number I s r ≡ 0 → AnsweredRound r.points (exact_point r.point) r.floats (I.starts s r).answer.track
  pub refines : (s : Session) (floats : List Float) → refine_number I s floats ≡ 0 → AnsweredRound s.points (estimate_of s) floats (I.refines s floats).answer.track
