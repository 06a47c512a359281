-- What the arithmetic of a record asks, so that nothing leaves its type. A record that holds has it.
use Rattle.std.specs.Prelude.{◌<◌}
use Rattle.axis.specs.Ready.{Ready, Held, Placed, Tolerable}
use Rattle.session.specs.declared.Point.{Point}
use Rattle.session.specs.declared.Session.{Session}
use Rattle.session.specs.Numbers.{most_points}

pub record ReadySession (s : Session) : Type 0 where
  pub on-x : Ready s.points s.x
  pub on-y : Ready s.points s.y
  pub on-z : Ready s.points s.z
  -- the held sums are true
  pub held_x : Held s.points s.x
  pub held-y : Held s.points s.y
  pub held-z : Held s.points s.z

-- a point in range
pub record PlacedPoint (q : Point) : Type 0 where
  pub on-x : Placed q.x
  pub on-y : Placed q.y
  pub on-z : Placed q.z

-- a record that awaits a correction
pub record Waiting (s : Session) : Type 0 where
  pub ready : ReadySession s
  pub on-x : Placed s.x.estimate
  pub on-y : Placed s.y.estimate
  pub on-z : Placed s.z.estimate
  pub tolerances : Tolerable s.tolerances
  pub accepted : s.accepted < most_points
  pub corrections : s.corrections < 8
