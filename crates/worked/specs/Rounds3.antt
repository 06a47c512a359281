-- A start of 3 points: what it is given, what every round shows, and the record that it leaves. `peer/worked` has the numbers in fractions.
use Rattle.std.specs.Prelude.{ℕ, List, [], ◌∷◌, pos, Float, replicate}
use Rattle.integers.specs.Lines.{Line, line}
use Rattle.axis.specs.declared.Motion.{Motion}
use Rattle.session.specs.declared.Point.{Point}
use Rattle.session.specs.declared.Session.{Session}
use Rattle.session.specs.declared.State.TheVariants.{Settled, Starting}
use Rattle.session.specs.Requests.{Request, request}
use Rattle.epoch_session.specs.declared.Round.{Round}
use Rattle.worked.specs.Shown.{minus, value, motion, none, point, nothing, whole, floats, tolerances, axis, filled, round}
use Rattle.worked.specs.Shown.{Shown, shows, starts, shown, refine}

-- six values and all floats are different
abbrev pub epoch : Request
epoch =
    request 3 (tolerances 2 3) 4 (whole (minus 1004) (pos 2005) (pos 3006) (pos 11) (minus 22) (pos 33))
    (floats
    (pos 15 ∷ minus 26 ∷ pos 31
    ∷ pos 17 ∷ minus 23 ∷ pos 36
    ∷ pos 22 ∷ minus 35 ∷ pos 42
    ∷ []))

-- between rounds: the samples of the last one, and the epoch in the place of the estimate
abbrev pub between : ℕ → Round → Session
between rounds held =
    filled Starting 3 (tolerances 2 3) 4 0 rounds
    (axis (value (pos 0) 0) (value (pos 0) 0) none held.x.samples 0 (motion (minus 1004) 0 (pos 11) 0))
    (axis (value (pos 0) 0) (value (pos 0) 0) none held.y.samples 0 (motion (pos 2005) 0 (minus 22) 0))
    (axis (value (pos 0) 0) (value (pos 0) 0) none held.z.samples 0 (motion (pos 3006) 0 (pos 33) 0))

-- at the newest point
abbrev pub opens : Round → Session
opens held =
    filled Settled 3 (tolerances 2 3) 4 0 0 held.x held.y held.z

-- of each axis S1 and S2 at the newest point, as the epoch fixes them, what its older samples give, and its samples
abbrev pub first : Round
first =
    round 3
    (axis (value (pos 41) 126403200) (value (minus 944) 28607040) (motion (pos 0) 17962560 (pos 2) 153014400) (pos 22 ∷ pos 17 ∷ pos 15 ∷ []) 6 none)
    (axis (value (minus 69) 19958400) (value (pos 1904) 16632000) (motion (minus 1) 128399040 (minus 5) 19958400) (minus 35 ∷ minus 23 ∷ minus 26 ∷ [])
    6 none)
    (axis (value (pos 93) 73180800) (value (pos 3147) 147026880) (motion (pos 0) 31933440 (pos 5) 79833600) (pos 42 ∷ pos 36 ∷ pos 31 ∷ []) 6 none)

-- the points, the oldest first
abbrev pub first_track : List Point
first_track =
    point (motion (minus 1007) 6652800 (minus 5) 39916800) (motion (pos 2015) 99792000 (pos 1) 39916800) (motion (pos 2990) 19958400 (minus 1) 93139200)
    ∷ point (motion (minus 1004) 0 (pos 11) 0) (motion (pos 2005) 0 (minus 22) 0) (motion (pos 3006) 0 (pos 33) 0)
    ∷ point (motion (minus 984) 33264000 (pos 30) 39916800) (motion (pos 1970) 19958400 (minus 50) 39916800) (motion (pos 3057) 153014400 (pos 71) 146361600)
    ∷ replicate 6 nothing

abbrev pub second_floats : List Float
second_floats =
    floats
    (pos 16 ∷ minus 29 ∷ pos 38
    ∷ pos 18 ∷ minus 24 ∷ pos 47
    ∷ pos 23 ∷ minus 37 ∷ pos 51
    ∷ [])

abbrev pub second : Round
second =
    round 3
    (axis (value (pos 43) 46569600) (value (minus 942) 15301440) (motion (pos 0) 18627840 (pos 3) 13305600) (pos 23 ∷ pos 18 ∷ pos 16 ∷ []) 6 none)
    (axis (value (minus 72) 106444800) (value (pos 1901) 41247360) (motion (minus 1) 126403200 (minus 6) 133056000) (minus 37 ∷ minus 24 ∷ minus 29 ∷ [])
    6 none)
    (axis (value (pos 108) 6652800) (value (pos 3167) 23284800) (motion (pos 0) 36590400 (pos 6) 86486400) (pos 51 ∷ pos 47 ∷ pos 38 ∷ []) 6 none)

abbrev pub second_track : List Point
second_track =
    point (motion (minus 1007) 86486400 (minus 6) 39916800) (motion (pos 2014) 146361600 (pos 3) 0) (motion (pos 2995) 33264000 (minus 10) 13305600)
    ∷ point (motion (minus 1004) 0 (pos 11) 0) (motion (pos 2005) 0 (minus 22) 0) (motion (pos 3006) 0 (pos 33) 0)
    ∷ point (motion (minus 984) 113097600 (pos 31) 39916800) (motion (pos 1969) 93139200 (minus 51) 0) (motion (pos 3063) 59875200 (pos 82) 66528000)
    ∷ replicate 6 nothing

abbrev pub third_floats : List Float
third_floats =
    floats
    (pos 14 ∷ minus 28 ∷ pos 39
    ∷ pos 20 ∷ minus 27 ∷ pos 46
    ∷ pos 21 ∷ minus 36 ∷ pos 53
    ∷ [])

abbrev pub third : Round
third =
    round 3
    (axis (value (pos 42) 46569600) (value (minus 943) 143035200) (motion (pos 0) 14636160 (pos 2) 106444800) (pos 21 ∷ pos 20 ∷ pos 14 ∷ []) 6 none)
    (axis (value (minus 72) 26611200) (value (pos 1899) 86486400) (motion (minus 1) 129729600 (minus 5) 19958400) (minus 36 ∷ minus 27 ∷ minus 28 ∷ [])
    6 none)
    (axis (value (pos 109) 93139200) (value (pos 3168) 53222400) (motion (pos 0) 39916800 (pos 6) 146361600) (pos 53 ∷ pos 46 ∷ pos 39 ∷ []) 6 none)

abbrev pub third_track : List Point
third_track =
    point (motion (minus 1006) 33264000 (minus 7) 93139200) (motion (pos 2013) 119750400 (pos 4) 106444800) (motion (pos 2994) 133056000 (minus 10) 79833600)
    ∷ point (motion (minus 1004) 0 (pos 11) 0) (motion (pos 2005) 0 (minus 22) 0) (motion (pos 3006) 0 (pos 33) 0)
    ∷ point (motion (minus 983) 59875200 (pos 31) 146361600) (motion (pos 1968) 66528000 (minus 53) 53222400) (motion (pos 3063) 26611200 (pos 82) 79833600)
    ∷ replicate 6 nothing

-- the largest change of each kind from the first round to the second
abbrev pub moved : Motion
moved =
    motion (pos 5) 66528000 (pos 10) 79833600

abbrev pub rows : List Line
rows =
    line Shown (starts epoch) (shows 0 2 first_track none (between 0 first))
    ∷ line Shown (shown (between 0 first) (refine second_floats)) (shows 0 2 second_track moved (between 1 second))
    ∷ line Shown (shown (between 1 second) (refine third_floats)) (shows 0 3 third_track none (opens third))
    ∷ []
