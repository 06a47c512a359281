-- The paper's numbers, and by them which records a call finds settled, awaiting or starting, in statements: a host can fill a record by itself, and one
-- that breaks a clause here counts as closed. Every number is written out; no constant of the code stands for one. Definitions only.
use Rattle.std.specs.Prelude.{◌≡◌, ◌⊎◌, ℕ, zero, suc, ◌-◌, ◌*◌, ◌^◌, ◌≤◌, ◌<◌, ℤ, pos, neg_ℤ, ◌+ℤ◌, ◌*ℤ◌, ◌≤ℤ◌, ◌<ℤ◌}
use Rattle.integers.specs.Differences.{at, ordinates}
use Rattle.exact.specs.declared.Exact.{Exact}
use Rattle.coefficients.specs.Formulas.{position_corrector, velocity_corrector}
use Rattle.axis.specs.declared.Axis.{Axis}
use Rattle.axis.specs.declared.Tolerances.{Tolerances}
use Rattle.axis.specs.Kinds.{Kind, of_position, of_velocity, value_of}
use Rattle.session.specs.declared.Point.{Point}
use Rattle.session.specs.declared.Session.{Session}
use Rattle.session.specs.declared.State.TheVariants.{Settled, Awaiting, Starting}
use Rattle.session.specs.Coordinates.{Coordinate, axis_of}
use Rattle.session.specs.Moves.{present_point, estimate_of, predicted_point}
use Rattle.epoch_session.specs.declared.Round.{Round}
use Rattle.epoch_session.specs.Rounds.{earlier_point}
use Rattle.epoch_session.specs.Records.{held_round}
use Rattle.demands.specs.Coordinates.{position_of, velocity_of}

-- ---- numbers

-- p is 1 to 9; each of the two tolerances is at most 1,048,576, and the limit 1 to 8
abbrev pub SomePoints : ℕ → Type 0
SomePoints p = (1 ≤ p) × (p ≤ 9)

abbrev pub Settings : Tolerances → ℕ → Type 0
Settings t limit = ((t.position ≤ 1048576) × (t.velocity ≤ 1048576)) × ((1 ≤ limit) × (limit ≤ 8))

-- the paper's D: so many parts make a tick
abbrev pub per_tick : ℕ
per_tick = 159667200

-- at least -h ticks and below h ticks, of a numerator
abbrev pub Between : ℕ → ℤ → Type 0
Between h z = (neg_ℤ (pos (h * per_tick)) ≤ℤ z) × (z <ℤ pos (h * per_tick))

-- a point in range, on every coordinate: -2^52 ≤ position < 2^52 and -2^40 ≤ velocity < 2^40
pub record InRange (q : Point) : Type 0 where
  pub position : (k : Coordinate) → Between (2 ^ 52) (position_of k q)
  pub velocity : (k : Coordinate) → Between (2 ^ 40) (velocity_of k q)

-- so is every point of a round
abbrev pub TrackInRange : Round → Type 0
TrackInRange r = (j : ℕ) → j < r.points → InRange (earlier_point r j)

-- a rounded sample
abbrev pub SampleInRange : ℤ → Type 0
SampleInRange a = (neg_ℤ (pos 268435456) ≤ℤ a) × (a ≤ℤ pos 268435456)

-- an exact value that is zero, and the remainders of four that a record has on a coordinate: S1, S2 and the estimate's two; `Means` has a held sum's
abbrev pub Zero : Exact → Type 0
Zero e = (e.whole ≡ pos 0) × (e.part ≡ 0)

pub record Remainders (a : Axis) : Type 0 where
  pub first : a.first.part < per_tick
  pub second : a.second.part < per_tick
  pub position : a.estimate.position.part < per_tick
  pub velocity : a.estimate.velocity.part < per_tick

-- ---- the sample places of a record: every one, and those from p on, which are empty

abbrev pub SamplesInRange : Session → Type 0
SamplesInRange s = (k : Coordinate) (i : ℕ) → SampleInRange (at (axis_of k s).samples i)

abbrev pub EmptyPlaces : Session → Type 0
EmptyPlaces s = (k : Coordinate) (i : ℕ) → s.points ≤ i → at (axis_of k s).samples i ≡ pos 0

-- ---- the held sums: what the p-1 older samples of the next point give to its corrected position and velocity

-- the weight that a corrector's row for p points has in column j + 1; column 1 is the next point's own
abbrev pub column : Kind → ℕ → ℕ → ℤ
column of_position p j = at (ordinates (position_corrector p)) j
column of_velocity p j = at (ordinates (velocity_corrector p)) j

-- w(1) a(0) + .. + w(n) a(n-1)
unfoldable pub older_sum : (ℕ → ℤ) → (ℕ → ℤ) → ℕ → ℤ
older_sum w a zero = pos 0
older_sum w a (suc n) = older_sum w a n +ℤ w (suc n) *ℤ a n

-- an exact value that is z over D, in the one form that it has
pub record Means (e : Exact) (z : ℤ) : Type 0 where
  pub part : e.part < per_tick
  pub value : e.whole *ℤ pos per_tick +ℤ pos e.part ≡ z

-- columns 2 to p times the newest p-1 samples that the record holds
abbrev pub HeldSums : Session → Type 0
HeldSums s =
    (k : Coordinate) (kind : Kind) →
    Means (value_of kind (axis_of k s).older) (older_sum (column kind s.points) (at (axis_of k s).samples) (s.points - 1))

abbrev pub NoHeldSums : Session → Type 0
NoHeldSums s = (k : Coordinate) (kind : Kind) → Zero (value_of kind (axis_of k s).older)

-- ---- open records

-- what a settled and an awaiting one both keep to
pub record Filled (s : Session) : Type 0 where
  -- the numbers
  pub points : SomePoints s.points
  pub settings : Settings s.tolerances s.limit
  pub samples : SamplesInRange s
  pub accepted : s.accepted ≤ 1000000
  -- every remainder is from 0 to D - 1
  pub remainders : (k : Coordinate) → Remainders (axis_of k s)
  -- the sums give a present point in range, and the estimate is in range
  pub present : InRange (present_point s)
  pub estimate : InRange (estimate_of s)
  -- the empty places are zero
  pub empty : EmptyPlaces s
  -- the held sums are true
  pub older : HeldSums s

-- a settled one has no estimate and no count
pub record SettledRecord (s : Session) : Type 0 where
  pub filled : Filled s
  pub state : s.state ≡ Settled
  pub estimate : (k : Coordinate) → Zero (axis_of k s).estimate.position × Zero (axis_of k s).estimate.velocity
  pub corrections : s.corrections ≡ 0

-- an awaiting one has a count below the limit, its prediction for an estimate while that is 0, and fewer than 1,000,000 points
pub record AwaitingRecord (s : Session) : Type 0 where
  pub filled : Filled s
  pub state : s.state ≡ Awaiting
  pub corrections : s.corrections < s.limit
  pub estimate : s.corrections ≡ 0 → estimate_of s ≡ predicted_point s
  pub accepted : s.accepted < 1000000

abbrev pub OpenRecord : Session → Type 0
OpenRecord s = SettledRecord s ⊎ AwaitingRecord s

-- ---- starting records, between the rounds of a start; the epoch stands in the estimate's place

pub record StartingRecord (s : Session) : Type 0 where
  pub state : s.state ≡ Starting
  -- p and the settings
  pub points : (s.points ≡ 3) ⊎ ((s.points ≡ 5) ⊎ ((s.points ≡ 7) ⊎ (s.points ≡ 9)))
  pub settings : Settings s.tolerances s.limit
  -- the epoch is whole and in range
  pub whole : (k : Coordinate) → ((axis_of k s).estimate.position.part ≡ 0) × ((axis_of k s).estimate.velocity.part ≡ 0)
  pub epoch : InRange (estimate_of s)
  -- the count of later rounds is below the limit
  pub rounds : s.corrections < s.limit
  -- the last samples
  pub samples : SamplesInRange s
  -- the rest is zero: no point was accepted, and there are no sums and nothing in an empty place
  pub accepted : s.accepted ≡ 0
  pub sums : (k : Coordinate) → Zero (axis_of k s).first × Zero (axis_of k s).second
  pub older : NoHeldSums s
  pub empty : EmptyPlaces s
  -- and the epoch and the samples give points in range
  pub track : TrackInRange (held_round s)
