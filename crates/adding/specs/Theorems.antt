-- What is proved of tracks that add: `proofs/Theorems.antt` has a proof of each.
use Rattle.std.specs.Prelude.{◌≡◌, ℕ, ◌≤◌, ℤ, nat_abs, ◌+ℤ◌, Float, Ok}
use Rattle.std.specs.Float.{binary64}
use Rattle.std.specs.Float.Ieee.{add}
use Rattle.ticks.specs.declared.Sample.{Sample}
use Rattle.ticks.specs.Round.{limit, rounded_of, ticks_in}
use Rattle.ticks.specs.Samples.{whole_of}
use Rattle.axis.specs.Kinds.{Kind}
use Rattle.session.specs.Coordinates.{Coordinate, ticks_on}
use Rattle.session.specs.Moves.{present_point}
use Rattle.session.specs.Requests.{Request}
use Rattle.steps.specs.declared.ReportedPoint.{ReportedPoint}
use Rattle.demands.specs.Histories.{Implementation, ours}
use Rattle.demands.specs.ClosedForm.{origin}
use Rattle.demands.specs.Demands.{Formulas, Leaves}
use Rattle.adding.specs.Tracks.{Track, Called, reached, value_at, value_on, value_in, PredictedAfter}
use Rattle.adding.specs.Sums.{OpeningsAdd, SumUpTo, SameUpTo, RequestsAdd}
use Rattle.adding.specs.Floats.{WholeTicks, float_on, float_sum}
use Rattle.adding.specs.Sessions.{Lived}
use Rattle.adding.specs.BadVersion.{slipping}

-- ---- any three tracks of a kind, unrelated but for the sum: what the third tells is the sum, of the position and of the velocity, on each coordinate

pub record Adds (I : Implementation) (Lives : Track → Type 0) : Type 0 where
  -- of point n
  pub points : (a b c : Track) → Lives a → Lives b → Lives c → (n : ℕ) → SumUpTo n a b c → (kind : Kind) (k : Coordinate) →
      value_at kind k c n ≡ value_at kind k a n +ℤ value_at kind k b n
  -- of a prediction after it that none refused, wherever each of the three made it
  pub predictions : (a b c : Track) → Lives a → Lives b → Lives c → (n : ℕ) → SumUpTo n a b c → (q r t : ReportedPoint) →
      PredictedAfter n q a.events → PredictedAfter n r b.events → PredictedAfter n t c.events → (kind : Kind) (k : Coordinate) →
      value_in kind k t ≡ value_in kind k q +ℤ value_in kind k r
  -- where all three stand at it: of the records, and of the prediction that each would give next
  pub present : (a b c : Track) → Lives a → Lives b → Lives c → (n : ℕ) → SumUpTo n a b c → reached a ≡ n → reached b ≡ n → reached c ≡ n →
      (kind : Kind) (k : Coordinate) →
      value_on kind k (present_point c.last) ≡ value_on kind k (present_point a.last) +ℤ value_on kind k (present_point b.last)
  pub next : (a b c : Track) → Lives a → Lives b → Lives c → (n : ℕ) → SumUpTo n a b c → reached a ≡ n → reached b ≡ n → reached c ≡ n →
      (q r t : ReportedPoint) → (I.predicts a.last).answer ≡ Ok q → (I.predicts b.last).answer ≡ Ok r →
      (I.predicts c.last).answer ≡ Ok t → (kind : Kind) (k : Coordinate) →
      value_in kind k t ≡ value_in kind k q +ℤ value_in kind k r

-- ---- point n, and a prediction after it, are those of the opening and the samples up to n alone

pub record OfSamplesUpTo (Lives : Track → Type 0) : Type 0 where
  pub points : (a b : Track) → Lives a → Lives b → (n : ℕ) → SameUpTo n a b → (kind : Kind) (k : Coordinate) → value_at kind k a n ≡ value_at kind k b n
  pub predictions : (a b : Track) → Lives a → Lives b → (n : ℕ) → SameUpTo n a b → (q r : ReportedPoint) →
      PredictedAfter n q a.events → PredictedAfter n r b.events → (kind : Kind) (k : Coordinate) → value_in kind k q ≡ value_in kind k r

-- ---- whole floats

pub record OfWholeFloats : Type 0 where
  -- a float of whole ticks rounds to them
  pub rounds : (x : Float) (z : ℤ) → WholeTicks x z → rounded_of x ≡ Ok z
  -- the float sum of two is their sum, where that is within the limit of a sample too
  pub sums : (x y : Float) (u v : ℤ) → WholeTicks x u → WholeTicks y v → nat_abs (u +ℤ v) ≤ limit → WholeTicks (add binary64 x y) (u +ℤ v)
  -- so a sample that is added float by float rounds to the sum of what the two round to, and so does each float of an opening
  pub samples : (a b : Sample) (u v : Coordinate → ℤ) → ((k : Coordinate) → WholeTicks (float_on k a) (u k)) → ((k : Coordinate) → WholeTicks (float_on k b) (v k)) →
      ((k : Coordinate) → nat_abs (u k +ℤ v k) ≤ limit) → (k : Coordinate) → ticks_on k (whole_of (float_sum a b)) ≡ ticks_on k (whole_of a) +ℤ ticks_on k (whole_of b)
  pub floats : (x y : Float) (u v : ℤ) → WholeTicks x u → WholeTicks y v → nat_abs (u +ℤ v) ≤ limit →
      ticks_in (rounded_of (add binary64 x y)) ≡ ticks_in (rounded_of x) +ℤ ticks_in (rounded_of y)

-- ---- the theorem

pub record Adding : Type 0 where
  -- of every implementation whose answers are those of demand 2's formulas, and whose record stands at its last point
  pub up_to : (I : Implementation) → Formulas I → OfSamplesUpTo (Called I)
  pub adds : (I : Implementation) → Formulas I → Leaves I → Adds I (Called I)
  -- and so of ours
  pub our_up_to : OfSamplesUpTo (Called ours)
  pub our_adds : Adds ours (Called ours)
  -- and of every session that there is: each of the three may be opened and called in its own way
  pub sessions_up_to : OfSamplesUpTo Lived
  pub sessions : Adds ours Lived
  -- requests that add ask for openings that add
  pub requests : (q r t : Request) → RequestsAdd q r t → OpeningsAdd (origin q) (origin r) (origin t)
  pub whole_floats : OfWholeFloats
  -- a version whose third track is off by one remainder is turned down
  pub slipping : ¬ Adds slipping (Called slipping)
