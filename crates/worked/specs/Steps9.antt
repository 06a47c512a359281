-- A session of 9 points: what it is given, what every call shows, and the record that it leaves. `peer/worked` has the numbers in fractions.
use Rattle.std.specs.Prelude.{ℕ, List, [], ◌∷◌, pos}
use Rattle.integers.specs.Lines.{Line, line}
use Rattle.ticks.specs.declared.Sample.{Sample}
use Rattle.axis.specs.declared.Motion.{Motion}
use Rattle.session.specs.declared.Point.{Point}
use Rattle.session.specs.declared.Session.{Session}
use Rattle.session.specs.declared.State.{State}
use Rattle.session.specs.declared.State.TheVariants.{Settled, Awaiting}
use Rattle.session.specs.Requests.{Request, request}
use Rattle.worked.specs.Shown.{minus, value, motion, none, point, nothing, whole, floats, sample, tolerances, axis, filled}
use Rattle.worked.specs.Shown.{Shown, shows, opening, shown, predict, correct, withdraw}

-- six values and all floats are different
abbrev pub given : Request
given =
    request 9 (tolerances 3 3) 6 (whole (pos 7001) (minus 8002) (pos 9004) (minus 61) (pos 72) (pos 83))
    (floats
    (pos 101 ∷ minus 202 ∷ pos 303
    ∷ pos 103 ∷ minus 199 ∷ pos 305
    ∷ pos 107 ∷ minus 195 ∷ pos 311
    ∷ pos 113 ∷ minus 188 ∷ pos 313
    ∷ pos 116 ∷ minus 182 ∷ pos 322
    ∷ pos 124 ∷ minus 179 ∷ pos 326
    ∷ pos 127 ∷ minus 170 ∷ pos 331
    ∷ pos 131 ∷ minus 166 ∷ pos 339
    ∷ pos 138 ∷ minus 161 ∷ pos 341
    ∷ []))

-- of each axis S1 and S2, what its older samples give, its samples, newest first, and its estimate
abbrev pub standing : State → ℕ → Point → Session
standing state corrections estimate =
    filled state 9 (tolerances 3 3) 6 0 corrections
    (axis (value (pos 4) 133241526) (value (pos 6993) 59003389) (motion (pos 2) 102393733 (pos 28) 12459590)
    (pos 138 ∷ pos 131 ∷ pos 127 ∷ pos 124 ∷ pos 116 ∷ pos 113 ∷ pos 107 ∷ pos 103 ∷ pos 101 ∷ []) 0 estimate.x)
    (axis (value (minus 5) 147349774) (value (minus 7992) 46895119) (motion (minus 3) 94459421 (minus 30) 99399498)
    (minus 161 ∷ minus 166 ∷ minus 170 ∷ minus 179 ∷ minus 182 ∷ minus 188 ∷ minus 195 ∷ minus 199 ∷ minus 202 ∷ []) 0 estimate.y)
    (axis (value (pos 255) 86425504) (value (pos 9231) 109764876) (motion (pos 7) 74438451 (pos 72) 3222846)
    (pos 341 ∷ pos 339 ∷ pos 331 ∷ pos 326 ∷ pos 322 ∷ pos 313 ∷ pos 311 ∷ pos 305 ∷ pos 303 ∷ []) 0 estimate.z)

abbrev pub predicted : Point
predicted =
    point (motion (pos 6978) 145375802 (minus 48) 89318636) (motion (minus 7981) 148812510 (pos 32) 87777052) (motion (pos 9277) 71247000 (pos 507) 79047232)

-- a sample that moves too much, and the estimate that it gives
abbrev pub one : Sample
one =
    sample (pos 146) (minus 153) (pos 354)

abbrev pub corrected : Point
corrected =
    point (motion (pos 7004) 148081976 (pos 74) 129481352) (motion (minus 8004) 86410593 (minus 78) 101892274)
    (motion (pos 9260) 123484773 (pos 429) 24074314)

abbrev pub change : Motion
change =
    motion (pos 26) 2706174 (pos 122) 40162716

-- a sample that is accepted, and the point that it gives
abbrev pub two : Sample
two =
    sample (pos 147) (minus 154) (pos 352)

abbrev pub accepted : Point
accepted =
    point (motion (pos 7004) 157833275 (pos 75) 15634718) (motion (minus 8004) 76659294 (minus 78) 56071708) (motion (pos 9260) 103982175 (pos 428) 92100382)

-- the record at the accepted point
abbrev pub settled : Session
settled =
    filled Settled 9 (tolerances 3 3) 6 1 0
    (axis (value (pos 151) 133241526) (value (pos 7145) 32577715) (motion (pos 3) 114833955 (pos 33) 71910234)
    (pos 147 ∷ pos 138 ∷ pos 131 ∷ pos 127 ∷ pos 124 ∷ pos 116 ∷ pos 113 ∷ pos 107 ∷ pos 103 ∷ []) 0 none)
    (axis (value (minus 159) 147349774) (value (minus 8150) 34577693) (motion (minus 4) 7338195 (minus 35) 75953746)
    (minus 154 ∷ minus 161 ∷ minus 166 ∷ minus 170 ∷ minus 179 ∷ minus 182 ∷ minus 188 ∷ minus 195 ∷ minus 199 ∷ []) 0 none)
    (axis (value (pos 607) 86425504) (value (pos 9839) 36523180) (motion (pos 9) 30361215 (pos 81) 15391266)
    (pos 352 ∷ pos 341 ∷ pos 339 ∷ pos 331 ∷ pos 326 ∷ pos 322 ∷ pos 313 ∷ pos 311 ∷ pos 305 ∷ []) 0 none)

-- the prediction there
abbrev pub following : Point
following =
    point (motion (pos 7176) 16058125 (pos 312) 157902030) (motion (minus 8190) 17166080 (minus 363) 81285248)
    (motion (pos 9876) 120805531 (pos 821) 126821794)

abbrev pub rows : List Line
rows =
    line Shown (opening given) (shows 0 0 (nothing ∷ []) none (standing Settled 0 nothing))
    ∷ line Shown (shown (standing Settled 0 nothing) predict) (shows 0 0 (predicted ∷ []) none (standing Awaiting 0 predicted))
    ∷ line Shown (shown (standing Awaiting 0 predicted) (correct one)) (shows 0 2 (corrected ∷ []) change (standing Awaiting 1 corrected))
    ∷ line Shown (shown (standing Awaiting 1 corrected) withdraw) (shows 0 0 (nothing ∷ []) none (standing Settled 0 nothing))
    ∷ line Shown (shown (standing Awaiting 1 corrected) (correct two)) (shows 0 1 (accepted ∷ []) none settled)
    ∷ line (List Point) (shown settled predict).points (following ∷ [])
    ∷ []
