-- A track: a session from its opening on, with the answers that its calls were given. Positions and velocities are numerators over D. Definitions only.
use Rattle.std.specs.Prelude.{◌≡◌, ◌⊎◌, List, [], ◌∷◌, ℕ, ℤ, length, Ok}
use Rattle.exact.specs.Numerator.{numerator}
use Rattle.axis.specs.Kinds.{Kind, of_position, of_velocity, value_of}
use Rattle.session.specs.declared.Point.{Point}
use Rattle.session.specs.declared.Session.{Session}
use Rattle.session.specs.Coordinates.{Coordinate, motion_on}
use Rattle.steps.specs.declared.ReportedPoint.{ReportedPoint}
use Rattle.demands.specs.Coordinates.{position_in, velocity_in}
use Rattle.demands.specs.Histories.{Implementation, Call, Event, predicting, after, history, entries}
use Rattle.demands.specs.ClosedForm.{Origin, Begins}
use Rattle.demands.specs.Demands.{position, velocity, sample}

pub record Track : Type 0 where
  -- its opening: p, the exact position and velocity of point 0, and p samples
  pub origin : Origin
  -- the record that began there, the answers since, the latest first, and the record that they left
  pub first : Session
  pub events : List Event
  pub last : Session

-- any calls of an implementation, on any record that begins at the opening
pub record Called (I : Implementation) (t : Track) : Type 0 where
  pub begins : Begins t.origin t.first
  pub calls : List Call
  pub events : t.events ≡ history I t.first calls
  pub last : t.last ≡ after I t.first calls

-- ---- its points

-- how many were accepted
abbrev pub reached : Track → ℕ
reached t = length (entries t.events)

-- the sample a(n), and the exact position or velocity of point n, as it was answered; point 0 is the opening's
abbrev pub sample_at : Coordinate → Track → ℕ → ℤ
sample_at k t n = sample t.origin k (entries t.events) n 0

abbrev pub value_at : Kind → Coordinate → Track → ℕ → ℤ
value_at of_position k t n = position t.origin k (entries t.events) n
value_at of_velocity k t n = velocity t.origin k (entries t.events) n

-- the exact position or velocity of a point, and of a point in an answer
abbrev pub value_on : Kind → Coordinate → Point → ℤ
value_on kind k q = numerator (value_of kind (motion_on k q))

abbrev pub value_in : Kind → Coordinate → ReportedPoint → ℤ
value_in of_position k q = position_in k q
value_in of_velocity k q = velocity_in k q

-- among the answers, one to a prediction with n points accepted, which was not refused
abbrev pub PredictedAfter : ℕ → ReportedPoint → List Event → Type 0
PredictedAfter n q [] = ⊥
PredictedAfter n q (e ∷ es) = ((e ≡ predicting (Ok q)) × (length (entries es) ≡ n)) ⊎ PredictedAfter n q es
