-- A session of 3 points: what it is given, what every call shows, and the record that it leaves. `peer/worked` has the numbers in fractions.
use Rattle.std.specs.Prelude.{ℕ, List, [], ◌∷◌, pos}
use Rattle.integers.specs.Lines.{Line, line}
use Rattle.ticks.specs.declared.Sample.{Sample}
use Rattle.axis.specs.declared.Motion.{Motion}
use Rattle.session.specs.declared.Point.{Point}
use Rattle.session.specs.declared.Session.{Session}
use Rattle.session.specs.declared.State.{State}
use Rattle.session.specs.declared.State.TheVariants.{Settled, Awaiting}
use Rattle.session.specs.Requests.{Request, request}
use Rattle.worked.specs.Shown.{minus, value, motion, none, point, nothing, whole, floats, sample, tolerances, axis, filled}
use Rattle.worked.specs.Shown.{Shown, shows, opening, shown, predict, correct, withdraw}

-- six values and all floats are different
abbrev pub given : Request
given =
    request 3 (tolerances 3 4) 5 (whole (pos 1000) (minus 2000) (pos 3003) (pos 10) (minus 21) (pos 35))
    (floats
    (pos 12 ∷ minus 25 ∷ pos 37
    ∷ pos 14 ∷ minus 22 ∷ pos 41
    ∷ pos 19 ∷ minus 31 ∷ pos 44
    ∷ []))

-- of each axis S1 and S2, what its older samples give, its samples, newest first, and its estimate
abbrev pub standing : State → ℕ → Point → Session
standing state corrections estimate =
    filled state 3 (tolerances 3 4) 5 0 corrections
    (axis (value (pos 20) 6652800) (value (pos 1018) 75176640) (motion (pos 0) 15966720 (pos 2) 93139200) (pos 19 ∷ pos 14 ∷ pos 12 ∷ []) 6 estimate.x)
    (axis (value (minus 38) 39916800) (value (minus 2036) 125072640) (motion (minus 1) 133056000 (minus 5) 119750400) (minus 31 ∷ minus 22 ∷ minus 25 ∷ [])
    6 estimate.y)
    (axis (value (pos 57) 33264000) (value (pos 3056) 85821120) (motion (pos 0) 31268160 (pos 5) 99792000) (pos 44 ∷ pos 41 ∷ pos 37 ∷ []) 6 estimate.z)

abbrev pub predicted : Point
predicted =
    point (motion (pos 1020) 113097600 (pos 32) 119750400) (motion (minus 2040) 79833600 (minus 62) 79833600) (motion (pos 3060) 59875200 (pos 80) 13305600)

-- a sample that moves too much, and the estimate that it gives
abbrev pub one : Sample
one =
    sample (pos 31) (minus 38) (pos 53)

abbrev pub corrected : Point
corrected =
    point (motion (pos 1021) 3991680 (pos 34) 39916800) (motion (minus 2039) 97130880 (minus 57) 119750400) (motion (pos 3060) 148357440 (pos 82) 113097600)

abbrev pub change : Motion
change =
    motion (pos 1) 17297280 (pos 5) 39916800

-- a sample that is accepted, and the point that it gives
abbrev pub two : Sample
two =
    sample (pos 30) (minus 39) (pos 52)

abbrev pub accepted : Point
accepted =
    point (motion (pos 1020) 151018560 (pos 33) 139708800) (motion (minus 2039) 84490560 (minus 57) 59875200) (motion (pos 3060) 135717120 (pos 82) 53222400)

-- the record at the accepted point
abbrev pub settled : Session
settled =
    filled Settled 3 (tolerances 3 4) 5 1 0
    (axis (value (pos 50) 6652800) (value (pos 1068) 81829440) (motion (pos 0) 27276480 (pos 4) 33264000) (pos 30 ∷ pos 19 ∷ pos 14 ∷ []) 6 none)
    (axis (value (minus 77) 39916800) (value (minus 2112) 5322240) (motion (minus 1) 128399040 (minus 6) 126403200) (minus 39 ∷ minus 31 ∷ minus 22 ∷ [])
    6 none)
    (axis (value (pos 109) 33264000) (value (pos 3165) 119085120) (motion (pos 0) 39916800 (pos 6) 133056000) (pos 52 ∷ pos 44 ∷ pos 41 ∷ []) 6 none)

-- the prediction there
abbrev pub following : Point
following =
    point (motion (pos 1072) 64532160 (pos 71) 139708800) (motion (minus 2116) 31268160 (minus 100) 126403200)
    (motion (pos 3171) 22619520 (pos 140) 66528000)

abbrev pub rows : List Line
rows =
    line Shown (opening given) (shows 0 0 (nothing ∷ []) none (standing Settled 0 nothing))
    ∷ line Shown (shown (standing Settled 0 nothing) predict) (shows 0 0 (predicted ∷ []) none (standing Awaiting 0 predicted))
    ∷ line Shown (shown (standing Awaiting 0 predicted) (correct one)) (shows 0 2 (corrected ∷ []) change (standing Awaiting 1 corrected))
    ∷ line Shown (shown (standing Awaiting 1 corrected) withdraw) (shows 0 0 (nothing ∷ []) none (standing Settled 0 nothing))
    ∷ line Shown (shown (standing Awaiting 1 corrected) (correct two)) (shows 0 1 (accepted ∷ []) none settled)
    ∷ line (List Point) (shown settled predict).points (following ∷ [])
    ∷ []
