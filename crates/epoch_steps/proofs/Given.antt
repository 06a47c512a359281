-- What a round is given: its epoch and samples give a record that starts, and one that is settled.
use mathlib.Core.Path.{◌≡◌, refl, ap, ◌∙◌}
use mathlib.Core.Bool.{true}
use mathlib.Core.List.{List}
use Prim.Native.Nat.{ℕ, ◌<◌}
use lib.IntN.{ℤ}
use lib.Ieee.{Float}
use Rattle.epoch_coefficients.specs.Formulas.{has_centre}
use Rattle.axis.specs.declared.Tolerances.{Tolerances}
use Rattle.axis.specs.Formulas.{places}
use Rattle.axis.specs.Holding.{places_hold}
use Rattle.axis.proofs.Places.{places-hold}
use Rattle.epoch_axis.specs.Formulas.{centre, started_axis}
use Rattle.session.specs.declared.Point.{Point}
use Rattle.session.specs.declared.Session.{Session}
use Rattle.session.specs.Numbers.{settings_hold}
use Rattle.session.specs.Moves.{estimate_of, point_in_range}
use Rattle.session.specs.Holding.{settled}
use Rattle.session.specs.Ready.{PlacedPoint}
use Rattle.session.proofs.Rules.{axes-in-range}
use Rattle.epoch_session.specs.declared.Round.{Round}
use Rattle.epoch_session.specs.Rounds.{round_of, earlier_point, round_in_range}
use Rattle.epoch_session.specs.Records.{starting, starting_session, opened_round}
use Rattle.epoch_session.proofs.Ready.{axis-starting}
use Rattle.epoch_session.proofs.Points.{centre-kept}
use Rattle.epoch_session.proofs.Rules.{keeps-start, starting-round}
use Rattle.epoch_session.proofs.Kept.{WholeEpoch, whole-motion, starting-by, opened-settled}
use Rattle.session.specs.declared.WholePoint.{WholePoint}
use Rattle.session.specs.Requests.{whole_motion, exact_point}
use Rattle.steps.specs.Opening.{axis_samples}
use Rattle.steps.proofs.Given.{exact-point-placed, samples-small}
use Rattle.epoch_steps.specs.Refusals.{given_round, later_round}
use Rattle.epoch_steps.specs.Steps.{starting_from}

-- ---- the epoch: whole and in range

pub start-whole : (epoch : WholePoint) → point_in_range (exact_point epoch) ≡ true → WholeEpoch (exact_point epoch)
unfolding exact_point
start-whole epoch r =
    let (x, (y, z)) = (axes-in-range (exact_point epoch)).0 r in
    record {
      on-x = whole-motion (whole_motion epoch.x epoch.vx) refl refl x;
      on-y = whole-motion (whole_motion epoch.y epoch.vy) refl refl y;
      on-z = whole-motion (whole_motion epoch.z epoch.vz) refl refl z;
    }

-- that of a starting record
pub held_whole : (s : Session) → starting s ≡ true → WholeEpoch (estimate_of s)
unfolding estimate_of
held_whole s t =
    let h = keeps-start s t in
    record {
      on-x = (axis-starting s.points s.x h.on-x).epoch;
      on-y = (axis-starting s.points s.y h.on-y).epoch;
      on-z = (axis-starting s.points s.z h.on-z).epoch;
    }

-- ---- the round

module _ (p : ℕ) (epoch : Point) (floats : List Float) where
  abbrev given : Round
  given = given_round p epoch floats

  -- the samples of axis k in their nine places
  abbrev placed-samples : ℕ → List ℤ
  placed-samples k = places p (axis_samples p k floats)

  placed-hold : (k : ℕ) → places_hold p (placed-samples k) ≡ true
  placed-hold k = places-hold p (axis_samples p k floats) (samples-small p k floats)

  pub given-points : given.points ≡ p
  unfolding given_round round_of
  given-points = refl

  -- the round's samples are those given
  pub given-samples : (given.x.samples ≡ placed-samples 0) × ((given.y.samples ≡ placed-samples 1) × (given.z.samples ≡ placed-samples 2))
  unfolding given_round round_of started_axis
  given-samples = (refl, (refl, refl))

  -- its centre is the epoch
  pub given-centre : PlacedPoint epoch → earlier_point given (centre p) ≡ epoch
  unfolding given_round
  given-centre = centre-kept p epoch (placed-samples 0) (placed-samples 1) (placed-samples 2)

  module _ (tolerances : Tolerances) (limit : ℕ) where
    from-given : (n : ℕ) → starting_from tolerances limit n epoch given ≡ starting_session p tolerances limit n epoch (placed-samples 0) (placed-samples 1) (placed-samples 2)
    unfolding given_round round_of started_axis
    from-given n = refl

    pub given-starts : (n : ℕ) → has_centre p ≡ true → settings_hold tolerances limit ≡ true → n < limit → WholeEpoch epoch → round_in_range given ≡ true → starting (starting_from tolerances limit n epoch given) ≡ true
    unfolding given_round
    given-starts n h e l q r =
        ap starting (from-given n)
        ∙ starting-by p tolerances limit n epoch (placed-samples 0) (placed-samples 1) (placed-samples 2) h e l q (placed-hold 0) (placed-hold 1) (placed-hold 2) r

    pub given-settles : has_centre p ≡ true → settings_hold tolerances limit ≡ true → PlacedPoint epoch → round_in_range given ≡ true → settled (opened_round tolerances limit given) ≡ true
    unfolding given_round
    given-settles h e q r =
        opened-settled p tolerances limit epoch (placed-samples 0) (placed-samples 1) (placed-samples 2) h e q (placed-hold 0) (placed-hold 1) (placed-hold 2) r

-- ---- the centre of a first round and of a later one

pub start-centre : (p : ℕ) (epoch : WholePoint) (floats : List Float) → point_in_range (exact_point epoch) ≡ true → earlier_point (given_round p (exact_point epoch) floats) (centre p) ≡ exact_point epoch
start-centre p epoch floats r = given-centre p (exact_point epoch) floats (exact-point-placed epoch r)

pub later-centre : (s : Session) (floats : List Float) → starting s ≡ true → earlier_point (later_round s floats) (centre s.points) ≡ estimate_of s
unfolding later_round
later-centre s floats t = given-centre s.points (estimate_of s) floats (starting-round s t).epoch
