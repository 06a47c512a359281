-- What a message is asked for, and what that says of its points: how many there are, when they are, and their exact values. Definitions only.
use Rattle.std.specs.Prelude.{unwrap_or, ℕ, ◌+◌, ◌*◌, ◌/◌, List, ℤ, pos, nat_abs, length, get_or}
use Rattle.exact.specs.declared.Exact.{Exact}
use Rattle.calendar.specs.Text.{time_in}
use Rattle.message.specs.declared.Request as Handed

pub record Request : Type 0 where
  -- five names, and two times as text
  pub originator : List ℕ
  pub object : List ℕ
  pub id : List ℕ
  pub center : List ℕ
  pub frame : List ℕ
  pub created : List ℕ
  pub start : List ℕ
  -- 2^tick ticks are a metre, and `step` seconds lie between two points
  pub tick : ℕ
  pub step : ℕ
  -- twelve numbers to a point: x, y, z, vx, vy, vz, each by its whole and its remainder
  pub points : List ℤ

abbrev pub request : List ℕ → List ℕ → List ℕ → List ℕ → List ℕ → List ℕ → List ℕ → ℕ → ℕ → List ℤ → Request
request originator object id center frame created start tick step points =
    record {
      originator = originator;
      object = object;
      id = id;
      center = center;
      frame = frame;
      created = created;
      start = start;
      tick = tick;
      step = step;
      points = points;
    }

-- the request that the writer is handed
abbrev pub request_of : Handed.Request → Request
request_of r =
    request r.originator.now r.object.now r.id.now r.center.now r.frame.now r.created.now r.start.now r.tick r.step r.points.now

-- ---- points

-- the whole points
unfoldable pub count_of : List ℤ → ℕ
count_of points = length points / 12

-- where value k of point i stands: x, y, z, vx, vy, vz are 0 to 5
abbrev pub place : ℕ → ℕ → ℕ
place i k = 12 * i + 2 * k

-- the exact value at a place: a remainder below 0 is refused
unfoldable pub value_at : List ℤ → ℕ → Exact
value_at points at = record { whole = get_or points at (pos 0); part = nat_abs (get_or points (at + 1) (pos 0)) }

-- ---- times, in seconds since 0001-01-01T00:00:00

-- of a text that is a time, and 0 for one that is none
unfoldable pub seconds_in : List ℕ → ℕ
seconds_in s = unwrap_or (time_in s) 0

-- of point i
unfoldable pub seconds_at : Request → ℕ → ℕ
seconds_at r i = seconds_in r.start + i * r.step
