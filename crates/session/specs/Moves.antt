-- The points that a record gives, and the records that the calls leave. Definitions only.
use Rattle.std.specs.Prelude.{ℕ, ◌+◌, Bool, List, ℤ}
use Rattle.ticks.specs.declared.WholeSample.{WholeSample}
use Rattle.axis.specs.declared.Axis.{Axis}
use Rattle.axis.specs.declared.Tolerances.{Tolerances}
use Rattle.axis.specs.Formulas.{still, present_motion, predicted_motion, corrected_motion, advanced_axis, opened_axis, empty_axis}
use Rattle.axis.specs.Estimates.{estimating}
use Rattle.session.specs.declared.Point.{Point}
use Rattle.session.specs.declared.Session.{Session}
use Rattle.session.specs.declared.State.{State}
use Rattle.session.specs.declared.State.TheVariants.{Closed, Settled, Awaiting}
use Rattle.session.specs.Values.{every_value, in_range_at}

-- ---- points

unfoldable pub nowhere : Point
nowhere = record { x = still; y = still; z = still }

-- the last accepted point
unfoldable pub present_point : Session → Point
present_point s =
    record {
      x = present_motion s.points s.x;
      y = present_motion s.points s.y;
      z = present_motion s.points s.z;
    }

-- the last estimate
unfoldable pub estimate_of : Session → Point
estimate_of s = record { x = s.x.estimate; y = s.y.estimate; z = s.z.estimate }

-- the next point, predicted
unfoldable pub predicted_point : Session → Point
predicted_point s =
    record {
      x = predicted_motion s.points s.x;
      y = predicted_motion s.points s.y;
      z = predicted_motion s.points s.z;
    }

-- the next point, corrected with its sample
unfoldable pub corrected_point : Session → WholeSample → Point
corrected_point s w =
    record {
      x = corrected_motion s.points s.x w.x;
      y = corrected_motion s.points s.y w.y;
      z = corrected_motion s.points s.z w.z;
    }

-- each of the six values is in the range of its kind
unfoldable pub point_in_range : Point → Bool
point_in_range q = every_value (in_range_at q)

-- ---- records

-- the settings of a record with another state, counts and axes
abbrev pub became : Session → State → ℕ → ℕ → Axis → Axis → Axis → Session
became s state accepted corrections x y z =
    record {
      state = state;
      points = s.points;
      tolerances = s.tolerances;
      limit = s.limit;
      accepted = accepted;
      corrections = corrections;
      x = x;
      y = y;
      z = z;
    }

-- settled at the last accepted point: what withdraw and refusal 8 leave
unfoldable pub settled_again : Session → Session
settled_again s = became s Settled s.accepted 0 (estimating s.x still) (estimating s.y still) (estimating s.z still)

-- awaiting, with an estimate and a count of corrections: what predict and *again* leave
unfoldable pub awaiting_at : Session → ℕ → Point → Session
awaiting_at s corrections q =
    became s Awaiting s.accepted corrections (estimating s.x q.x) (estimating s.y q.y) (estimating s.z q.z)

-- settled at the next point, whose sample has entered the sums once: what *accepted* leaves
unfoldable pub accepted_at : Session → WholeSample → Session
accepted_at s w =
    became s Settled (s.accepted + 1) 0
    (advanced_axis s.points s.x w.x)
    (advanced_axis s.points s.y w.y)
    (advanced_axis s.points s.z w.z)

-- settled at point 0, with the samples of each axis, newest first
unfoldable pub opened_session : ℕ → Tolerances → ℕ → Point → List ℤ → List ℤ → List ℤ → Session
opened_session p tolerances limit q xs ys zs =
    record {
      state = Settled;
      points = p;
      tolerances = tolerances;
      limit = limit;
      accepted = 0;
      corrections = 0;
      x = opened_axis p q.x xs;
      y = opened_axis p q.y ys;
      z = opened_axis p q.z zs;
    }

-- closed, and zero in every field: what is new, or what an open that was refused leaves
unfoldable pub closed_session : Session
closed_session =
    record {
      state = Closed;
      points = 0;
      tolerances = record { position = 0; velocity = 0 };
      limit = 0;
      accepted = 0;
      corrections = 0;
      x = empty_axis;
      y = empty_axis;
      z = empty_axis;
    }
