-- What it is that a third track adds two, and that two tracks are one up to a point. Nothing is said of tolerances, limits and the calls of each. Definitions only.
use Rattle.std.specs.Prelude.{◌≡◌, ℕ, ◌*◌, ◌≤◌, ◌<◌, ℤ, ◌+ℤ◌, Float, get_or}
use Rattle.integers.specs.Differences.{at}
use Rattle.ticks.specs.Round.{rounded_of, ticks_in}
use Rattle.axis.specs.Kinds.{Kind, of_position, of_velocity}
use Rattle.session.specs.Coordinates.{Coordinate, on_x, on_y, on_z}
use Rattle.session.specs.Requests.{Request}
use Rattle.demands.specs.ClosedForm.{Origin}
use Rattle.adding.specs.Tracks.{Track, reached, sample_at}

-- ---- openings: one p, and on each coordinate the exact position, the exact velocity and the samples of the points 0, -1, .., 1-p

pub record OpeningsAdd (a b c : Origin) : Type 0 where
  pub first : a.points ≡ c.points
  pub second : b.points ≡ c.points
  pub position : (k : Coordinate) → c.position k ≡ a.position k +ℤ b.position k
  pub velocity : (k : Coordinate) → c.velocity k ≡ a.velocity k +ℤ b.velocity k
  pub samples : (k : Coordinate) (i : ℕ) → i < c.points → at (c.samples k) i ≡ at (a.samples k) i +ℤ at (b.samples k) i

-- ---- tracks, up to point n

-- all three have accepted it; the third opened with the sum of the openings, and each of its samples since is the sum of theirs at that point
pub record SumUpTo (n : ℕ) (a b c : Track) : Type 0 where
  pub first : n ≤ reached a
  pub second : n ≤ reached b
  pub third : n ≤ reached c
  pub openings : OpeningsAdd a.origin b.origin c.origin
  pub samples : (k : Coordinate) (m : ℕ) → 1 ≤ m → m ≤ n → sample_at k c m ≡ sample_at k a m +ℤ sample_at k b m

-- both have accepted it; they opened alike, and their samples up to it are the same
pub record SameUpTo (n : ℕ) (a b : Track) : Type 0 where
  pub first : n ≤ reached a
  pub second : n ≤ reached b
  pub openings : a.origin ≡ b.origin
  pub samples : (k : Coordinate) (m : ℕ) → 1 ≤ m → m ≤ n → sample_at k a m ≡ sample_at k b m

-- ---- openings as `open` is asked for them: one p, whole positions and velocities that add, and floats that round to ticks that add, place by place

-- the whole position or velocity that is given
abbrev pub given : Kind → Coordinate → Request → ℤ
given of_position on_x r = r.point.x
given of_position on_y r = r.point.y
given of_position on_z r = r.point.z
given of_velocity on_x r = r.point.vx
given of_velocity on_y r = r.point.vy
given of_velocity on_z r = r.point.vz

-- what float i rounds to
abbrev pub tick_at : ℕ → Request → ℤ
tick_at i r = ticks_in (rounded_of (get_or r.floats i Float.nan))

pub record RequestsAdd (q r t : Request) : Type 0 where
  pub first : q.points ≡ t.points
  pub second : r.points ≡ t.points
  pub point : (kind : Kind) (k : Coordinate) → given kind k t ≡ given kind k q +ℤ given kind k r
  pub floats : (i : ℕ) → i < 3 * t.points → tick_at i t ≡ tick_at i q +ℤ tick_at i r
