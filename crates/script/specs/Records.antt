-- A record as the words of a line, in the order in which they stand. Definitions only.
use Rattle.std.specs.Prelude.{ℕ, ◌^◌, ℤ, cond, List, [], ◌∷◌, eqb, ltb, Option, Some, None}
use Rattle.exact.specs.declared.Exact.{Exact}
use Rattle.axis.specs.declared.Axis.{Axis}
use Rattle.axis.specs.declared.Motion.{Motion}
use Rattle.axis.specs.declared.Tolerances.{Tolerances}
use Rattle.axis.specs.Formulas.{axis_with}
use Rattle.session.specs.declared.Session.{Session}
use Rattle.session.specs.declared.State.{State}
use Rattle.session.specs.declared.State.TheVariants.{Closed, Settled, Awaiting, Starting}
use Rattle.script.specs.declared.pieces.Settings.{Settings}
use Rattle.script.specs.Words.{Reader, ◌>>=◌, pure, given, natural, integer}

unfoldable pub three : Reader (ℤ × ℤ × ℤ)
three = do
  a ← integer
  b ← integer
  c ← integer
  pure (a, b, c)

-- ---- one axis: the two sums, the held sum, nine samples, the estimate

-- a number below 2^32
unfoldable pub part_of : ℕ → Option ℕ
part_of n = cond (ltb n (2 ^ 32)) (Some n) None

unfoldable pub exactly : Reader Exact
exactly = do
  whole ← integer
  n ← natural
  part ← given 0 (part_of n)
  pure (record { whole = whole; part = part })

unfoldable pub motion : Reader Motion
motion = do
  position ← exactly
  velocity ← exactly
  pure (record { position = position; velocity = velocity })

unfoldable pub samples : Reader (List ℤ)
samples = do
  p ← three
  q ← three
  r ← three
  pure (p.0 ∷ p.1 ∷ p.2 ∷ q.0 ∷ q.1 ∷ q.2 ∷ r.0 ∷ r.1 ∷ r.2 ∷ [])

unfoldable pub axis : Reader Axis
axis = do
  first ← exactly
  second ← exactly
  older ← motion
  row ← samples
  estimate ← motion
  pure (axis_with first second older row estimate)

-- ---- the record: a state, the settings, two counts and three axes

unfoldable pub state_of : ℕ → Option State
state_of n =
    cond (eqb n 0) (Some Closed)
    (cond (eqb n 1) (Some Settled)
    (cond (eqb n 2) (Some Awaiting)
    (cond (eqb n 3) (Some Starting)
    None)))

unfoldable pub state : Reader State
state = do
  n ← natural
  given Closed (state_of n)

unfoldable pub tolerances : Reader Tolerances
tolerances = do
  position ← natural
  velocity ← natural
  pure (record { position = position; velocity = velocity })

unfoldable pub settings : Reader Settings
settings = do
  points ← natural
  both ← tolerances
  limit ← natural
  pure (record { points = points; tolerances = both; limit = limit })

unfoldable pub session : Reader Session
session = do
  which ← state
  set ← settings
  accepted ← natural
  corrections ← natural
  x ← axis
  y ← axis
  z ← axis
  pure (record {
    state = which;
    points = set.points;
    tolerances = set.tolerances;
    limit = set.limit;
    accepted = accepted;
    corrections = corrections;
    x = x;
    y = y;
    z = z;
  })
