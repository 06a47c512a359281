-- Which records count as starting, and the records that rounds leave. Definitions only.
use Rattle.std.specs.Prelude.{ℕ, Bool, true, false, List, eqb, ltb, ℤ, pos}
use Rattle.integers.specs.Tests.{◌and◌}
use Rattle.exact.specs.Numerator.{exact_of, same_exact}
use Rattle.epoch_coefficients.specs.Formulas.{has_centre}
use Rattle.axis.specs.declared.Axis.{Axis}
use Rattle.axis.specs.declared.Motion.{Motion}
use Rattle.axis.specs.declared.Tolerances.{Tolerances}
use Rattle.axis.specs.Formulas.{axis_with, still}
use Rattle.axis.specs.Estimates.{same_motion, in_range}
use Rattle.axis.specs.Holding.{places_hold}
use Rattle.session.specs.declared.Point.{Point}
use Rattle.session.specs.declared.Session.{Session}
use Rattle.session.specs.declared.State.{State}
use Rattle.session.specs.declared.State.TheVariants.{Closed, Settled, Awaiting, Starting}
use Rattle.session.specs.Numbers.{settings_hold}
use Rattle.session.specs.Moves.{estimate_of}
use Rattle.session.specs.Holding.{every_axis}
use Rattle.epoch_session.specs.declared.Round.{Round}
use Rattle.epoch_session.specs.Rounds.{round_of, round_in_range}

-- ---- which records count as starting. The epoch stands in the estimate's place.

-- the round that the record holds
unfoldable pub held_round : Session → Round
held_round s = round_of s.points (estimate_of s) s.x.samples s.y.samples s.z.samples

-- the sums are zero
unfoldable pub sums_zero : Axis → Bool
sums_zero a = same_exact a.first (exact_of (pos 0)) and same_exact a.second (exact_of (pos 0))

-- the held sum is zero
unfoldable pub older_zero : Axis → Bool
older_zero a = same_motion a.older still

-- the epoch is whole and in range
unfoldable pub epoch_holds : Motion → Bool
epoch_holds m = eqb m.position.part 0 and eqb m.velocity.part 0 and in_range m

-- the rules of an axis: the sums are zero, the samples keep to their numbers and the empty places are 0, and so does the epoch
unfoldable pub axis_starts : ℕ → Axis → Bool
axis_starts p a = sums_zero a and places_hold p a.samples and epoch_holds a.estimate

-- every axis keeps them, and the epoch and the samples give points in range
unfoldable pub axes_start : Session → Bool
axes_start s = axis_starts s.points s.x and axis_starts s.points s.y and axis_starts s.points s.z and round_in_range (held_round s)

-- p has a centre, the settings keep to their numbers, no point is accepted, the count of later rounds is below the limit, and the held sums are zero
unfoldable pub start_holds : Session → Bool
start_holds s =
    has_centre s.points
    and settings_hold s.tolerances s.limit
    and eqb s.accepted 0
    and ltb s.corrections s.limit
    and every_axis s older_zero
    and axes_start s

abbrev pub is_starting : State → Bool
is_starting Closed = false
is_starting Settled = false
is_starting Awaiting = false
is_starting Starting = true

-- a record in that state that breaks none of these rules
unfoldable pub starting : Session → Bool
starting s = is_starting s.state and start_holds s

-- ---- what rounds leave

unfoldable pub starting_axis : Motion → List ℤ → Axis
starting_axis epoch xs = axis_with (exact_of (pos 0)) (exact_of (pos 0)) still xs epoch

-- starting, after so many later rounds
unfoldable pub starting_session : ℕ → Tolerances → ℕ → ℕ → Point → List ℤ → List ℤ → List ℤ → Session
starting_session p tolerances limit rounds epoch xs ys zs =
    record {
      state = Starting;
      points = p;
      tolerances = tolerances;
      limit = limit;
      accepted = 0;
      corrections = rounds;
      x = starting_axis epoch.x xs;
      y = starting_axis epoch.y ys;
      z = starting_axis epoch.z zs;
    }

-- settled at the newest point of a round
unfoldable pub opened_round : Tolerances → ℕ → Round → Session
opened_round tolerances limit r =
    record {
      state = Settled;
      points = r.points;
      tolerances = tolerances;
      limit = limit;
      accepted = 0;
      corrections = 0;
      x = r.x;
      y = r.y;
      z = r.z;
    }
