-- Records filled by a host that keep every rule but one: at the last value that is allowed the call goes through, past it the record counts as closed.
use Rattle.std.specs.Prelude.{ℕ, List, [], ◌∷◌, ℤ, pos}
use Rattle.integers.specs.Lines.{Line}
use Rattle.axis.specs.declared.Motion.{Motion}
use Rattle.axis.specs.declared.Axis.{Axis}
use Rattle.session.specs.declared.Session.{Session}
use Rattle.session.specs.declared.State.TheVariants.{Settled, Awaiting}
use Rattle.worked.specs.Shown.{minus, value, motion, none, sample, tolerances, axis, filled, calm, closed}
use Rattle.worked.specs.Shown.{predict, correct, withdraw, closed_to, numbered}

-- ---- what is wrong stands on one axis; the others are calm

-- S1 and S2, each by its whole and its part
abbrev sums : ℤ → ℕ → ℤ → ℕ → Axis
sums first first_part second second_part = axis (value first first_part) (value second second_part) none [] 9 none

-- samples, newest first, beside so many empty places
abbrev samples : List ℤ → ℕ → Axis
samples xs empty = axis (value (pos 0) 0) (value (pos 0) 0) none xs empty none

abbrev estimate : Motion → Axis
estimate m = axis (value (pos 0) 0) (value (pos 0) 0) none [] 9 m

-- S1 16, S2 1015 and a sample of 12, with an estimate
abbrev stepping : Motion → Axis
stepping m = axis (value (pos 16) 0) (value (pos 1015) 0) none (pos 12 ∷ []) 8 m

-- settled, by p, the two tolerances, the limit, the accepted points and the corrections
abbrev settled : ℕ → ℕ → ℕ → ℕ → ℕ → ℕ → Session
settled p position velocity limit accepted corrections = filled Settled p (tolerances position velocity) limit accepted corrections calm calm calm

-- settled with one point, by its axes
abbrev settled_at : Axis → Axis → Axis → Session
settled_at x y z = filled Settled 1 (tolerances 1 2) 3 4 0 x y z

-- awaiting with one point and limit 3, by accepted points, corrections and axes
abbrev awaiting : ℕ → ℕ → Axis → Axis → Axis → Session
awaiting accepted corrections x y z = filled Awaiting 1 (tolerances 1 2) 3 accepted corrections x y z

-- ---- the numbers of a session

abbrev pub numbers : List Line
numbers =
    closed_to predict closed
    -- p
    ∷ closed_to predict (settled 0 0 0 1 0 0)
    ∷ numbered predict 0 (settled 1 0 0 1 0 0)
    ∷ numbered predict 0 (settled 9 0 0 1 0 0)
    ∷ closed_to predict (settled 10 0 0 1 0 0)
    -- the tolerances
    ∷ numbered predict 0 (settled 1 1048576 1048576 1 0 0)
    ∷ closed_to predict (settled 1 1048577 0 1 0 0)
    ∷ closed_to predict (settled 1 0 1048577 1 0 0)
    -- the limit
    ∷ closed_to predict (settled 1 0 0 0 0 0)
    ∷ numbered predict 0 (settled 1 0 0 8 0 0)
    ∷ closed_to predict (settled 1 0 0 9 0 0)
    -- accepted points: at the most there is room for none, so that a settled record answers 9 and an awaiting one counts as closed
    ∷ numbered predict 0 (settled 1 0 0 1 999999 0)
    ∷ numbered predict 9 (settled 1 0 0 1 1000000 0)
    ∷ closed_to predict (settled 1 0 0 1 1000001 0)
    ∷ numbered withdraw 0 (awaiting 999999 0 calm calm calm)
    ∷ closed_to withdraw (awaiting 1000000 0 calm calm calm)
    ∷ numbered (correct (sample (pos 0) (pos 0) (pos 0))) 0 (awaiting 999999 0 calm calm calm)
    ∷ closed_to (correct (sample (pos 0) (pos 0) (pos 0))) (awaiting 1000000 0 calm calm calm)
    -- samples
    ∷ numbered predict 0 (settled_at calm (samples (pos 268435456 ∷ []) 8) calm)
    ∷ closed_to predict (settled_at calm (samples (pos 268435457 ∷ []) 8) calm)
    ∷ numbered predict 0 (settled_at calm calm (samples (minus 268435456 ∷ []) 8))
    ∷ closed_to predict (settled_at calm calm (samples (minus 268435457 ∷ []) 8))
    ∷ []

-- ---- remainders, ranges and empty places

abbrev pub values : List Line
values =
    -- remainders
    numbered predict 0 (settled_at (sums (pos 5) 159667199 (pos 6) 159667199) calm calm)
    ∷ closed_to predict (settled_at (sums (pos 5) 159667200 (pos 6) 0) calm calm)
    ∷ closed_to predict (settled_at calm (sums (pos 5) 0 (pos 6) 159667200) calm)
    ∷ numbered withdraw 0 (awaiting 0 1 calm (estimate (motion (pos 7) 159667199 (pos 8) 159667199)) calm)
    ∷ closed_to withdraw (awaiting 0 1 calm (estimate (motion (pos 7) 159667200 (pos 8) 0)) calm)
    ∷ closed_to withdraw (awaiting 0 1 calm calm (estimate (motion (pos 7) 0 (pos 8) 159667200)))
    -- the present position, S2 less S1 without a sample: below 2^52, and -2^52 at the least
    ∷ numbered predict 0 (settled_at calm (sums (pos 0) 0 (pos 4503599627370495) 159667199) calm)
    ∷ closed_to predict (settled_at calm (sums (pos 0) 0 (pos 4503599627370496) 0) calm)
    ∷ numbered predict 0 (settled_at calm calm (sums (pos 0) 0 (minus 4503599627370496) 0))
    ∷ closed_to predict (settled_at calm calm (sums (pos 0) 0 (minus 4503599627370497) 159667199))
    -- the present velocity, S1 without a sample: below 2^40, and -2^40 at the least
    ∷ numbered predict 0 (settled_at calm calm (sums (pos 1099511627775) 159667199 (pos 0) 0))
    ∷ closed_to predict (settled_at calm calm (sums (pos 1099511627776) 0 (pos 0) 0))
    ∷ numbered predict 0 (settled_at (sums (minus 1099511627776) 0 (pos 0) 0) calm calm)
    ∷ closed_to predict (settled_at (sums (minus 1099511627777) 159667199 (pos 0) 0) calm calm)
    -- the estimate
    ∷ numbered withdraw 0 (awaiting 0 1 calm calm (estimate (motion (pos 4503599627370495) 159667199 (pos 1099511627775) 159667199)))
    ∷ closed_to withdraw (awaiting 0 1 calm calm (estimate (motion (pos 4503599627370496) 0 (pos 0) 0)))
    ∷ closed_to withdraw (awaiting 0 1 calm (estimate (motion (pos 0) 0 (pos 1099511627776) 0)) calm)
    ∷ numbered withdraw 0 (awaiting 0 1 (estimate (motion (minus 4503599627370496) 0 (minus 1099511627776) 0)) calm calm)
    ∷ closed_to withdraw (awaiting 0 1 (estimate (motion (minus 4503599627370497) 159667199 (pos 0) 0)) calm calm)
    ∷ closed_to withdraw (awaiting 0 1 (estimate (motion (pos 0) 0 (minus 1099511627777) 159667199)) calm calm)
    -- empty places: the first and the last of one point's eight
    ∷ closed_to predict (settled_at (samples (pos 0 ∷ pos 1 ∷ []) 7) calm calm)
    ∷ closed_to predict (settled_at calm calm (samples (pos 0 ∷ pos 0 ∷ pos 0 ∷ pos 0 ∷ pos 0 ∷ pos 0 ∷ pos 0 ∷ pos 0 ∷ minus 1 ∷ []) 0))
    ∷ []

-- ---- the held sums: what the older samples give to the next corrected point

-- the samples 19, 14 and 12, newest first, with a held position and velocity, each by its whole and its part
abbrev holding : ℤ → ℕ → ℤ → ℕ → Axis
holding position part velocity vpart = axis (value (pos 0) 0) (value (pos 0) 0) (motion position part velocity vpart) (pos 19 ∷ pos 14 ∷ pos 12 ∷ []) 6 none

-- the true ones: 1330560 · 19 - 665280 · 14 and 26611200 · 19 - 6652800 · 14 over D
abbrev right : Axis
right = holding (pos 0) 15966720 (pos 2) 93139200

-- three points
abbrev settled_three : Axis → Axis → Axis → Session
settled_three x y z = filled Settled 3 (tolerances 1 2) 3 4 0 x y z

abbrev awaiting_three : Axis → Axis → Axis → Session
awaiting_three x y z = filled Awaiting 3 (tolerances 1 2) 3 4 1 x y z

abbrev pub older_sums : List Line
older_sums =
    numbered predict 0 (settled_three right right right)
    ∷ numbered withdraw 0 (awaiting_three right right right)
    -- off by one remainder
    ∷ closed_to predict (settled_three (holding (pos 0) 15966721 (pos 2) 93139200) right right)
    ∷ closed_to predict (settled_three right (holding (pos 0) 15966720 (pos 2) 93139199) right)
    ∷ closed_to predict (settled_three right right (holding (pos 0) 15966719 (pos 2) 93139200))
    ∷ closed_to withdraw (awaiting_three right right (holding (pos 0) 15966720 (pos 2) 93139201))
    ∷ closed_to (correct (sample (pos 0) (pos 0) (pos 0))) (awaiting_three (holding (pos 0) 15966720 (pos 2) 93139201) right right)
    -- the same value in another form
    ∷ closed_to predict (settled_three (holding (minus 1) 175633920 (pos 2) 93139200) right right)
    -- position and velocity exchanged; none; and the sums of the present point, whose columns are one place off
    ∷ closed_to predict (settled_three right (holding (pos 2) 93139200 (pos 0) 15966720) right)
    ∷ closed_to predict (settled_three right right (holding (pos 0) 0 (pos 0) 0))
    ∷ closed_to predict (settled_three (holding (pos 1) 91143360 (minus 11) 153014400) right right)
    -- one point has no older samples
    ∷ closed_to predict (settled_at calm calm (axis (value (pos 0) 0) (value (pos 0) 0) (motion (pos 0) 1 (pos 0) 0) (pos 12 ∷ []) 8 none))
    ∷ []

-- ---- each state's own rules

abbrev pub states : List Line
states =
    -- settled: no estimate and no count
    closed_to predict (settled_at calm calm (estimate (motion (pos 1) 0 (pos 0) 0)))
    ∷ closed_to predict (settled_at (estimate (motion (pos 0) 1 (pos 0) 0)) calm calm)
    ∷ closed_to predict (settled_at calm (estimate (motion (pos 0) 0 (minus 1) 0)) calm)
    ∷ closed_to predict (settled_at calm calm (estimate (motion (pos 0) 0 (pos 0) 1)))
    ∷ closed_to predict (settled 1 0 0 8 0 1)
    -- awaiting: a count below the limit
    ∷ numbered withdraw 0 (awaiting 0 2 calm calm calm)
    ∷ closed_to withdraw (awaiting 0 3 calm calm calm)
    -- and the prediction for an estimate while nothing is counted: 1015 + 12/12 and 16 + 12/2 of the sums and the sample on x
    ∷ numbered withdraw 0 (awaiting 0 0 (stepping (motion (pos 1016) 0 (pos 22) 0)) calm calm)
    ∷ closed_to withdraw (awaiting 0 0 (stepping (motion (pos 1017) 0 (pos 22) 0)) calm calm)
    ∷ closed_to withdraw (awaiting 0 0 (stepping (motion (pos 1016) 0 (pos 22) 1)) calm calm)
    ∷ closed_to withdraw (awaiting 0 0 calm (estimate (motion (pos 0) 1 (pos 0) 0)) calm)
    ∷ closed_to withdraw (awaiting 0 0 calm calm (estimate (motion (pos 0) 0 (minus 1) 0)))
    ∷ numbered withdraw 0 (awaiting 0 1 (stepping (motion (pos 1017) 0 (pos 22) 1)) calm calm)
    -- the other state's call
    ∷ closed_to predict (awaiting 0 0 calm calm calm)
    ∷ closed_to withdraw (settled_at calm calm calm)
    ∷ closed_to (correct (sample (pos 0) (pos 0) (pos 0))) (settled_at calm calm calm)
    ∷ []
