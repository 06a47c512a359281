-- Records between the rounds of a start, filled by a host, that keep every rule but one: at the last value that is allowed a later round goes through, past
-- it the record counts as closed.
use Rattle.std.specs.Prelude.{ℕ, ◌*◌, List, [], ◌∷◌, ◌++◌, ℤ, pos, replicate}
use Rattle.integers.specs.Lines.{Line}
use Rattle.axis.specs.declared.Motion.{Motion}
use Rattle.axis.specs.declared.Axis.{Axis}
use Rattle.session.specs.declared.Session.{Session}
use Rattle.session.specs.declared.State.TheVariants.{Settled, Awaiting, Starting}
use Rattle.worked.specs.Shown.{minus, value, motion, none, floats, sample, tolerances, axis, filled, calm, closed}
use Rattle.worked.specs.Shown.{Call, predict, correct, withdraw, refine, closed_to, numbered}

-- ---- what is wrong stands on one axis; the others are calm

abbrev sums : ℤ → ℕ → ℤ → ℕ → Axis
sums first first_part second second_part = axis (value first first_part) (value second second_part) none [] 9 none

-- three samples, newest first, beside six empty places
abbrev samples : ℤ → ℤ → ℤ → Axis
samples a b c = axis (value (pos 0) 0) (value (pos 0) 0) none (a ∷ b ∷ c ∷ []) 6 none

-- a held position and velocity, and the samples 19, 14 and 12
abbrev holding : Motion → Axis
holding m = axis (value (pos 0) 0) (value (pos 0) 0) m (pos 19 ∷ pos 14 ∷ pos 12 ∷ []) 6 none

-- the epoch's position and velocity, and three samples of n
abbrev epoch : Motion → ℤ → Axis
epoch m n = axis (value (pos 0) 0) (value (pos 0) 0) none (n ∷ n ∷ n ∷ []) 6 m

-- by p, the two tolerances, the limit, the accepted points and the later rounds
abbrev between : ℕ → ℕ → ℕ → ℕ → ℕ → ℕ → Session
between p position velocity limit accepted rounds = filled Starting p (tolerances position velocity) limit accepted rounds calm calm calm

-- with three points, by its axes
abbrev between_at : Axis → Axis → Axis → Session
between_at x y z = filled Starting 3 (tolerances 1 2) 3 0 1 x y z

-- a later round of p points whose samples are zero
abbrev later : ℕ → Call
later p = refine (floats (replicate (3 * p) (pos 0)))

-- ---- settings and counts

abbrev pub settings : List Line
settings =
    -- p: odd, and not 1; `Rounds9` has a start of nine points
    closed_to (later 1) (between 1 0 0 1 0 0)
    ∷ closed_to (later 2) (between 2 0 0 1 0 0)
    ∷ numbered (later 3) 0 (between 3 0 0 1 0 0)
    ∷ closed_to (later 4) (between 4 0 0 1 0 0)
    ∷ numbered (later 5) 0 (between 5 0 0 1 0 0)
    ∷ closed_to (later 6) (between 6 0 0 1 0 0)
    ∷ closed_to (later 8) (between 8 0 0 1 0 0)
    ∷ closed_to (later 10) (between 10 0 0 1 0 0)
    ∷ closed_to (later 11) (between 11 0 0 1 0 0)
    -- the tolerances
    ∷ numbered (later 3) 0 (between 3 1048576 1048576 1 0 0)
    ∷ closed_to (later 3) (between 3 1048577 0 1 0 0)
    ∷ closed_to (later 3) (between 3 0 1048577 1 0 0)
    -- the limit, and a count of later rounds below it
    ∷ closed_to (later 3) (between 3 0 0 0 0 0)
    ∷ closed_to (later 3) (between 3 0 0 1 0 1)
    ∷ numbered (later 3) 0 (between 3 0 0 8 0 7)
    ∷ closed_to (later 3) (between 3 0 0 8 0 8)
    ∷ closed_to (later 3) (between 3 0 0 9 0 0)
    -- no point is accepted
    ∷ closed_to (later 3) (between 3 0 0 1 1 0)
    -- the calls of the other states, and a later round on those
    ∷ closed_to predict (between_at calm calm calm)
    ∷ closed_to (correct (sample (pos 0) (pos 0) (pos 0))) (between_at calm calm calm)
    ∷ closed_to withdraw (between_at calm calm calm)
    ∷ closed_to (later 3) closed
    ∷ closed_to (later 3) (filled Settled 3 (tolerances 1 2) 3 0 0 calm calm calm)
    ∷ closed_to (later 3) (filled Awaiting 3 (tolerances 1 2) 3 0 0 calm calm calm)
    ∷ []

-- ---- the axes

abbrev pub axes : List Line
axes =
    -- the sums are zero
    closed_to (later 3) (between_at (sums (pos 1) 0 (pos 0) 0) calm calm)
    ∷ closed_to (later 3) (between_at calm (sums (pos 0) 1 (pos 0) 0) calm)
    ∷ closed_to (later 3) (between_at calm calm (sums (pos 0) 0 (minus 1) 0))
    ∷ closed_to (later 3) (between_at (sums (pos 0) 0 (pos 0) 1) calm calm)
    -- the held sums are zero, also where others are what the samples give
    ∷ closed_to (later 3) (between_at (holding (motion (pos 0) 1 (pos 0) 0)) calm calm)
    ∷ closed_to (later 3) (between_at calm (holding (motion (pos 0) 0 (minus 1) 0)) calm)
    ∷ closed_to (later 3) (between_at calm calm (holding (motion (pos 0) 0 (pos 0) 1)))
    ∷ numbered (later 3) 0 (between_at calm calm (holding none))
    ∷ closed_to (later 3) (between_at calm calm (holding (motion (pos 0) 15966720 (pos 2) 93139200)))
    -- samples, and empty places
    ∷ numbered (later 3) 0 (between_at (samples (pos 268435456) (minus 268435456) (pos 1)) calm calm)
    ∷ closed_to (later 3) (between_at calm (samples (pos 268435457) (pos 0) (pos 0)) calm)
    ∷ closed_to (later 3) (between_at calm calm (samples (pos 0) (pos 0) (minus 268435457)))
    ∷ closed_to (later 3) (between_at (axis (value (pos 0) 0) (value (pos 0) 0) none (pos 0 ∷ pos 0 ∷ pos 0 ∷ pos 1 ∷ []) 5 none) calm calm)
    ∷ closed_to (later 3) (between_at calm calm (axis (value (pos 0) 0) (value (pos 0) 0) none (replicate 8 (pos 0) ++ minus 1 ∷ []) 0 none))
    -- the epoch is whole
    ∷ closed_to (later 3) (between_at calm (epoch (motion (pos 7) 1 (pos 8) 0) (pos 0)) calm)
    ∷ closed_to (later 3) (between_at calm calm (epoch (motion (pos 7) 0 (pos 8) 1) (pos 0)))
    ∷ closed_to (later 3) (between_at (epoch (motion (pos 7) 159667200 (pos 8) 0) (pos 0)) calm calm)
    -- and in range
    ∷ numbered (later 3) 0 (between_at (epoch (motion (pos 4503599627370495) 0 (pos 0) 0) (pos 0)) (epoch (motion (minus 4503599627370496) 0 (pos 0) 0) (pos 0)) calm)
    ∷ closed_to (later 3) (between_at (epoch (motion (pos 4503599627370496) 0 (pos 0) 0) (pos 0)) calm calm)
    ∷ closed_to (later 3) (between_at calm (epoch (motion (minus 4503599627370497) 0 (pos 0) 0) (pos 0)) calm)
    ∷ numbered (later 3) 0 (between_at calm (epoch (motion (pos 0) 0 (pos 1099511627775) 0) (pos 0)) (epoch (motion (pos 0) 0 (minus 1099511627776) 0) (pos 0)))
    ∷ closed_to (later 3) (between_at calm (epoch (motion (pos 0) 0 (pos 1099511627776) 0) (pos 0)) calm)
    ∷ closed_to (later 3) (between_at calm calm (epoch (motion (pos 0) 0 (minus 1099511627777) 0) (pos 0)))
    -- a point that is worked out: the newest and the oldest position lie the velocity away, and a sample of 1 throughout turns the velocity by 1 a step
    ∷ numbered (later 3) 0 (between_at calm (epoch (motion (pos 4503599627370494) 0 (pos 1) 0) (pos 0)) calm)
    ∷ closed_to (later 3) (between_at calm (epoch (motion (pos 4503599627370495) 0 (pos 1) 0) (pos 0)) calm)
    ∷ closed_to (later 3) (between_at calm calm (epoch (motion (minus 4503599627370496) 0 (pos 1) 0) (pos 0)))
    ∷ numbered (later 3) 0 (between_at (epoch (motion (pos 0) 0 (pos 1099511627774) 0) (pos 1)) calm calm)
    ∷ closed_to (later 3) (between_at (epoch (motion (pos 0) 0 (pos 1099511627775) 0) (pos 1)) calm calm)
    ∷ []
