-- Every refusal of every call, in its order: each row breaks the rule of its number and the later ones with it. At the end of each list the call goes through.
use Rattle.std.specs.Prelude.{ℕ, Bool, true, false, List, [], ◌∷◌, ◌++◌, pos, Float, replicate}
use Rattle.std.specs.Float.{nan, inf, binary64}
use Rattle.std.specs.Float.Ieee.{of_bits}
use Rattle.integers.specs.Lines.{Line, line}
use Rattle.ticks.specs.declared.Sample.{Sample}
use Rattle.axis.specs.declared.Motion.{Motion}
use Rattle.session.specs.declared.WholePoint.{WholePoint}
use Rattle.session.specs.declared.Session.{Session}
use Rattle.session.specs.declared.State.TheVariants.{Settled, Awaiting, Starting}
use Rattle.session.specs.Requests.{Request, request}
use Rattle.worked.specs.Shown.{minus, value, motion, none, nothing, whole, float, floats, sample, tolerances, axis, filled, calm, closed}
use Rattle.worked.specs.Shown.{Shown, shows, opening, starts, shown, after_all, predict, correct, refine, refused, refused_round}

-- ---- what is asked

-- p, the two tolerances, the limit, the point and the floats
abbrev asks : ℕ → ℕ → ℕ → ℕ → WholePoint → List Float → Request
asks p position velocity limit q given = request p (tolerances position velocity) limit q given

abbrev origin : WholePoint
origin = whole (pos 0) (pos 0) (pos 0) (pos 0) (pos 0) (pos 0)

-- out of range: y
abbrev far : WholePoint
far = whole (pos 0) (pos 4503599627370496) (pos 0) (pos 0) (pos 0) (pos 0)

-- the highest position, the lowest one, the highest velocity and the lowest one
abbrev edge : WholePoint
edge = whole (pos 4503599627370495) (minus 4503599627370496) (pos 0) (pos 0) (pos 1099511627775) (minus 1099511627776)

-- n points of which the first has floats, the others zeros
abbrev points : ℕ → Float → Float → Float → List Float
points zeros x y z = x ∷ y ∷ z ∷ replicate zeros (float (pos 0))

-- one tick too many, minus infinity and a NaN, the worst of them last
abbrev spoiled : ℕ → List Float
spoiled zeros = points zeros (float (pos 268435457)) (inf true) nan

-- without the NaN: an infinity that is minus where s is true
abbrev endless : Bool → ℕ → List Float
endless s zeros = points zeros (float (pos 268435457)) (float (pos 0)) (inf s)

-- ---- open

abbrev opens : Request → ℕ → Line
opens r number = line Shown (opening r) (refused number closed)

abbrev pub openings : List Line
openings =
    opens (asks 0 1048577 0 9 far (nan ∷ [])) 1
    ∷ opens (asks 10 1048577 0 9 far (nan ∷ [])) 1
    ∷ opens (asks 1 1048577 0 9 far (spoiled 1)) 2
    ∷ opens (asks 1 1048577 0 8 far (spoiled 0)) 3
    ∷ opens (asks 1 0 1048577 8 far (spoiled 0)) 3
    ∷ opens (asks 1 0 0 0 far (spoiled 0)) 3
    ∷ opens (asks 1 0 0 9 far (spoiled 0)) 3
    ∷ opens (asks 1 0 0 8 far (spoiled 0)) 6
    ∷ opens (asks 1 0 0 8 (whole (minus 4503599627370497) (pos 0) (pos 0) (pos 0) (pos 0) (pos 0)) (spoiled 0)) 6
    ∷ opens (asks 1 0 0 8 (whole (pos 0) (pos 0) (pos 0) (pos 0) (pos 0) (pos 1099511627776)) (spoiled 0)) 6
    ∷ opens (asks 1 0 0 8 (whole (pos 0) (pos 0) (pos 0) (pos 0) (minus 1099511627777) (pos 0)) (spoiled 0)) 6
    ∷ opens (asks 1 0 0 8 edge (spoiled 0)) 4
    ∷ opens (asks 1 0 0 8 edge (endless false 0)) 13
    ∷ opens (asks 1 0 0 8 edge (endless true 0)) 13
    ∷ opens (asks 1 0 0 8 edge (floats (pos 0 ∷ pos 268435457 ∷ pos 0 ∷ []))) 5
    ∷ opens (asks 1 0 0 8 edge (floats (pos 0 ∷ pos 0 ∷ minus 268435457 ∷ []))) 5
    ∷ line ℕ (opening (asks 1 1048576 1048576 8 edge (floats (pos 0 ∷ pos 268435456 ∷ minus 268435456 ∷ [])))).number 0
    ∷ []

-- ---- predict

-- settled at 2^52 - 1 with velocity 1 on x, so that the next position is out of range, and so many points accepted
abbrev leaving : ℕ → Session
leaving accepted = filled Settled 1 (tolerances 1 2) 3 accepted 0 (axis (value (pos 1) 0) (value (pos 4503599627370496) 0) none [] 9 none) calm calm

-- velocity 2^40 - 1 on z, which a sample of 2 would take out of range
abbrev turning : Session
turning = filled Settled 1 (tolerances 1 2) 3 5 0 calm calm (axis (value (pos 1099511627776) 0) (value (pos 0) 0) none (pos 2 ∷ []) 8 none)

abbrev pub predictions : List Line
predictions =
    line Shown (shown (leaving 1000001) predict) (refused 7 (leaving 1000001))
    ∷ line Shown (shown (leaving 1000000) predict) (refused 9 (leaving 1000000))
    ∷ line Shown (shown (leaving 999999) predict) (refused 6 (leaving 999999))
    ∷ line Shown (shown turning predict) (refused 6 turning)
    ∷ []

-- ---- correct

-- one point and limit 8, by the tolerances and the corrections that were made: samples of 0 move the position of x by a tick and some parts, and the velocity
-- of z by three ticks a step and as many
abbrev estimated : ℕ → ℕ → ℕ → ℕ → Session
estimated parts position velocity corrections =
    filled Awaiting 1 (tolerances position velocity) 8 5 corrections
    (axis (value (pos 0) 0) (value (pos 0) 0) none [] 9 (motion (pos 1) parts (pos 0) 0))
    calm
    (axis (value (pos 0) 0) (value (pos 0) 0) none [] 9 (motion (pos 0) 0 (pos 3) parts))

-- the same, settled at the point before, and at the next one
abbrev settled_with : ℕ → ℕ → ℕ → Session
settled_with position velocity accepted = filled Settled 1 (tolerances position velocity) 8 accepted 0 calm calm calm

-- at its last correction, with the highest position on y
abbrev high : Session
high = filled Awaiting 1 (tolerances 0 0) 8 5 7 calm (axis (value (pos 0) 0) (value (pos 4503599627370495) 0) none [] 9 none) calm

abbrev still : Sample
still = sample (pos 0) (pos 0) (pos 0)

abbrev infinity : Float
infinity = of_bits binary64 0x7FF0_0000_0000_0000

abbrev minus_infinity : Float
minus_infinity = of_bits binary64 0xFFF0_0000_0000_0000

abbrev corrects : Session → Sample → ℕ → Line
corrects s a number = line Shown (shown s (correct a)) (refused number s)

-- opened at zeros with limit 8 and no tolerance, predicted, and corrected seven times to and fro
abbrev seven : Shown
seven =
    let one = correct (sample (pos 12) (pos 0) (pos 0)) in
    let two = correct (sample (pos 24) (pos 0) (pos 0)) in
    after_all (opening (asks 1 0 0 8 origin (floats (pos 0 ∷ pos 0 ∷ pos 0 ∷ [])))) (predict ∷ one ∷ two ∷ one ∷ two ∷ one ∷ two ∷ one ∷ [])

abbrev pub corrections : List Line
corrections =
    corrects (settled_with 0 0 5) (record { x = float (pos 268435457); y = inf false; z = nan }) 7
    ∷ corrects high (record { x = float (pos 268435457); y = inf false; z = nan }) 4
    -- by the bits: a NaN with the sign bit after both infinities, and each of these beside a float that is too large
    ∷ corrects high (record { x = minus_infinity; y = infinity; z = of_bits binary64 0xFFF0_0000_0000_0001 }) 4
    ∷ corrects high (record { x = float (pos 268435457); y = minus_infinity; z = float (pos 0) }) 13
    ∷ corrects high (record { x = float (minus 268435457); y = float (pos 0); z = infinity }) 13
    ∷ corrects high (sample (pos 268435457) (pos 12) (pos 0)) 5
    ∷ corrects high (sample (pos 0) (pos 12) (minus 268435457)) 5
    ∷ corrects high (sample (pos 0) (pos 12) (pos 0)) 6
    -- 8: the last correction, by the position, by the velocity and by a part of each, and the record settled at the point before
    ∷ line Shown (shown (estimated 0 0 3 7) (correct still)) (refused 8 (settled_with 0 3 5))
    ∷ line Shown (shown (estimated 0 1 2 7) (correct still)) (refused 8 (settled_with 1 2 5))
    ∷ line Shown (shown (estimated 1 1 3 7) (correct still)) (refused 8 (settled_with 1 3 5))
    -- with a correction left it is again, and at both tolerances it is accepted
    ∷ line ℕ (shown (estimated 1 1 3 6) (correct still)).kind 2
    ∷ line Motion (shown (estimated 1 1 3 6) (correct still)).change (motion (pos 1) 1 (pos 3) 1)
    ∷ line ℕ (shown (estimated 1 1 3 6) (correct still)).session.corrections 7
    ∷ line Shown (shown (estimated 0 1 3 7) (correct still)) (shows 0 1 (nothing ∷ []) none (settled_with 1 3 6))
    -- the eighth correction of a point is the last
    ∷ line ℕ seven.kind 2
    ∷ line ℕ seven.session.corrections 7
    ∷ line Shown (shown seven.session (correct still)) (refused 8 (settled_with 0 0 0))
    ∷ line ℕ (shown seven.session (correct (sample (pos 12) (pos 0) (pos 0)))).kind 1
    ∷ []

-- ---- a first round

abbrev starting : Request → ℕ → Line
starting r number = line Shown (starts r) (refused_round number closed)

-- the newest position of three is out of range: y
abbrev out : WholePoint
out = whole (pos 0) (pos 4503599627370495) (pos 0) (pos 0) (pos 1) (pos 0)

-- nine floats: the first and the last, and between them only such as are too large
abbrev lastly : Float → Float → List Float
lastly first last = first ∷ replicate 7 (float (pos 268435457)) ++ last ∷ []

abbrev pub first_rounds : List Line
first_rounds =
    starting (asks 0 1048577 0 9 far (nan ∷ [])) 1
    ∷ starting (asks 10 1048577 0 9 far (nan ∷ [])) 1
    ∷ starting (asks 1 1048577 0 9 far (nan ∷ [])) 10
    ∷ starting (asks 2 1048577 0 9 far (nan ∷ [])) 10
    ∷ starting (asks 8 1048577 0 9 far (nan ∷ [])) 10
    ∷ starting (asks 7 1048577 0 9 far (nan ∷ [])) 2
    ∷ starting (asks 3 1048577 0 9 far (spoiled 5)) 2
    ∷ starting (asks 3 1048577 0 8 far (spoiled 6)) 3
    ∷ starting (asks 3 0 1048577 8 far (spoiled 6)) 3
    ∷ starting (asks 3 0 0 0 far (spoiled 6)) 3
    ∷ starting (asks 3 0 0 9 far (spoiled 6)) 3
    ∷ starting (asks 3 0 0 8 far (spoiled 6)) 6
    ∷ starting (asks 3 0 0 8 out (spoiled 6)) 4
    ∷ starting (asks 3 0 0 8 out (lastly (inf false) nan)) 4
    ∷ starting (asks 3 0 0 8 out (endless false 6)) 13
    ∷ starting (asks 3 0 0 8 out (lastly (float (pos 0)) (inf true))) 13
    ∷ starting (asks 3 0 0 8 out (points 6 (float (pos 0)) (float (minus 268435457)) (float (pos 0)))) 5
    ∷ starting (asks 3 0 0 8 out (floats (replicate 9 (pos 0)))) 6
    ∷ line ℕ (starts (asks 3 1048576 1048576 8 origin (floats (replicate 9 (pos 0))))).number 0
    ∷ []

-- ---- a later round

-- three points, no tolerance and limit 8, by the rounds that were made: its newest position is the highest, on y
abbrev between : ℕ → Session
between rounds =
    filled Starting 3 (tolerances 0 0) 8 0 rounds
    calm
    (axis (value (pos 0) 0) (value (pos 0) 0) none [] 9 (motion (pos 4503599627370494) 0 (pos 1) 0))
    calm

abbrev refines : Session → List Float → ℕ → Line
refines s given number = line Shown (shown s (refine given)) (refused_round number s)

-- a sample of 12 at the oldest point of x
abbrev other : List Float
other = points 6 (float (pos 12)) (float (pos 0)) (float (pos 0))

abbrev pub later_rounds : List Line
later_rounds =
    refines (between 8) (spoiled 5) 7
    ∷ refines (between 7) (spoiled 5) 2
    ∷ refines (between 7) (spoiled 6) 4
    ∷ refines (between 7) (endless false 6) 13
    ∷ refines (between 7) (endless true 6) 13
    ∷ refines (between 7) (points 6 (float (pos 0)) (float (pos 12)) (float (minus 268435457))) 5
    ∷ refines (between 7) (floats (replicate 9 (pos 12))) 6
    ∷ line Shown (shown (between 7) (refine other)) (refused_round 8 closed)
    -- with a round left more is asked for, and the same samples open the session
    ∷ line ℕ (shown (between 6) (refine other)).kind 2
    ∷ line ℕ (shown (between 6) (refine other)).session.corrections 7
    ∷ line ℕ (shown (between 7) (refine (floats (replicate 9 (pos 0))))).kind 3
    ∷ []
