-- Which records count as open. A host can fill a record by itself: one that breaks a clause here counts as closed. Definitions only.
use Rattle.std.specs.Prelude.{Bool, true, false, not, ◌||◌, eqb, leb, ltb}
use Rattle.integers.specs.Tests.{◌and◌}
use Rattle.axis.specs.declared.Axis.{Axis}
use Rattle.axis.specs.Holding.{remainders_hold, samples_small, empty_zero, older_holds}
use Rattle.session.specs.declared.Point.{Point}
use Rattle.session.specs.declared.Session.{Session}
use Rattle.session.specs.declared.State.{State}
use Rattle.session.specs.declared.State.TheVariants.{Closed, Settled, Awaiting, Starting}
use Rattle.session.specs.Coordinates.{axis_of, every_coordinate}
use Rattle.session.specs.Values.{every_value, same_at}
use Rattle.session.specs.Numbers.{points_hold, settings_hold, most_points}
use Rattle.session.specs.Moves.{nowhere, present_point, estimate_of, predicted_point, point_in_range}

abbrev pub every_axis : Session → (Axis → Bool) → Bool
every_axis s test = every_coordinate (λ k. test (axis_of k s))

-- p, the tolerances, the limit and the accepted points keep to their numbers
unfoldable pub counts_hold : Session → Bool
counts_hold s = points_hold s.points and settings_hold s.tolerances s.limit and leb s.accepted most_points

-- each of the six values is the same
unfoldable pub same_point : Point → Point → Bool
same_point q r = every_value (same_at q r)

-- a settled record has no estimate and no count
unfoldable pub settled_holds : Session → Bool
settled_holds s = same_point (estimate_of s) nowhere and eqb s.corrections 0

-- while no correction is counted, the estimate is the prediction
unfoldable pub estimate_begins : Session → Bool
estimate_begins s = not (eqb s.corrections 0) || same_point (estimate_of s) (predicted_point s)

-- an awaiting one has a count below the limit, an estimate that began at its prediction, and room for a point
unfoldable pub awaiting_holds : Session → Bool
awaiting_holds s = ltb s.corrections s.limit and estimate_begins s and ltb s.accepted most_points

abbrev pub state_holds : State → Session → Bool
state_holds Closed s = false
state_holds Settled s = settled_holds s
state_holds Awaiting s = awaiting_holds s
state_holds Starting s = false

-- the record is open: no field breaks the numbers, every remainder is from 0 to D - 1, the sums give a present point in range,
-- the estimate is in range, every empty sample place is zero, the held sums are true, and the state's own rules are kept
unfoldable pub holds : Session → Bool
holds s =
    counts_hold s
    and every_axis s (λ a. samples_small a.samples)
    and every_axis s remainders_hold
    and point_in_range (present_point s)
    and point_in_range (estimate_of s)
    and every_axis s (λ a. empty_zero s.points a.samples)
    and every_axis s (older_holds s.points)
    and state_holds s.state s

abbrev pub is_settled : State → Bool
is_settled Closed = false
is_settled Settled = true
is_settled Awaiting = false
is_settled Starting = false

abbrev pub is_awaiting : State → Bool
is_awaiting Closed = false
is_awaiting Settled = false
is_awaiting Awaiting = true
is_awaiting Starting = false

-- the record is open, and in the state that a call wants
unfoldable pub settled : Session → Bool
settled s = is_settled s.state and holds s

unfoldable pub awaiting : Session → Bool
awaiting s = is_awaiting s.state and holds s
