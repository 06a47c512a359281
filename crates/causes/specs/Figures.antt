-- Explanations worked by hand, one table: what the definitions give, row by row, and what is expected. Every session is opened at zero unless said.
use Rattle.std.specs.Prelude.{ℕ, ◌*◌, ◌^◌, ◌-◌, Bool, true, false, List, [], ◌∷◌, ℤ, pos, negsuc, Float, replicate}
use Rattle.std.specs.Float.{nan, inf, binary64}
use Rattle.std.specs.Float.Ieee.{of_int}
use Rattle.integers.specs.Lines.{Line, line}
use Rattle.ticks.specs.declared.Sample.{Sample}
use Rattle.session.specs.declared.Session.{Session}
use Rattle.session.specs.declared.WholePoint.{WholePoint}
use Rattle.session.specs.Requests.{request}
use Rattle.steps.specs.Steps.{open_of, predict_of, correct_of}
use Rattle.reasons.specs.declared.Explanation.{Explanation}
use Rattle.reasons.specs.Explanations.{explain_of}

-- ---- the sessions

abbrev float : ℤ → Float
float n = of_int binary64 n

abbrev sample : ℤ → ℤ → ℤ → Sample
sample x y z = record { x = float x; y = float y; z = float z }

-- x and y where a point is opened, and the velocity on z
abbrev point : ℤ → ℤ → ℤ → WholePoint
point x y vz = record { x = x; y = y; z = pos 0; vx = pos 0; vy = pos 0; vz = vz }

abbrev origin : WholePoint
origin = point (pos 0) (pos 0) (pos 0)

-- p, the two tolerances, the limit and the point; all opening samples are 0
abbrev opened : ℕ → ℕ → ℕ → ℕ → WholePoint → Session
opened p position velocity limit q = (open_of (request p (record { position = position; velocity = velocity }) limit q (replicate (3 * p) (float (pos 0))))).session

-- and predicted
abbrev awaiting : ℕ → ℕ → ℕ → ℕ → WholePoint → Session
awaiting p position velocity limit q = (predict_of (opened p position velocity limit q)).session

-- ---- an explanation, as one line of numbers

pub record Told : Type 0 where
  pub number : ℕ
  pub kind : ℕ
  pub value : ℕ
  pub whole : ℤ
  pub part : ℕ
  pub tolerance : ℕ
  pub given : Bool
  pub x : ℤ
  pub y : ℤ
  pub z : ℤ

abbrev told : Explanation → Told
told e =
    record {
      number = e.number;
      kind = e.kind;
      value = e.reason.value;
      whole = e.reason.change.exact.whole;
      part = e.reason.change.exact.part;
      tolerance = e.reason.tolerance;
      given = e.differences.given;
      x = e.differences.x;
      y = e.differences.y;
      z = e.differences.z;
    }

-- number and kind; value, whole and part of its change, and its tolerance; with differences
abbrev says : ℕ → ℕ → ℕ → ℤ → ℕ → ℕ → ℤ → ℤ → ℤ → Told
says number kind value whole part tolerance x y z =
    record { number = number; kind = kind; value = value; whole = whole; part = part; tolerance = tolerance; given = true; x = x; y = y; z = z }

-- and without
abbrev says_only : ℕ → ℕ → ℕ → ℤ → ℕ → ℕ → Told
says_only number kind value whole part tolerance =
    record { number = number; kind = kind; value = value; whole = whole; part = part; tolerance = tolerance; given = false; x = pos 0; y = pos 0; z = pos 0 }

abbrev explains : Session → Sample → Told → Line
explains s a t = line Told (told (explain_of s a)) t

-- ---- the table

abbrev pub figures : List Line
figures =
    -- p 1: a sample of 24 moves a position by 24/12 = 2 and a velocity by 24/2 = 12; y by 2, and 1 is allowed
    explains (awaiting 1 1 12 2 origin) (sample (pos 0) (pos 24) (pos 0)) (says 0 2 2 (pos 2) 0 1 (pos 0) (pos 24) (pos 0))
    -- the velocity of z by 12, and 11 is allowed
    ∷ explains (awaiting 1 2 11 2 origin) (sample (pos 0) (pos 0) (pos 24)) (says 0 2 6 (pos 12) 0 11 (pos 0) (pos 0) (pos 24))
    -- p 3, a third difference of 1: s(4) = 19/240 and g(3) = 3/8 of a tick; the position of x is named though its velocity moved too
    ∷ explains (awaiting 3 0 0 2 origin) (sample (pos 1) (pos 0) (pos 0)) (says 0 2 1 (pos 0) 12640320 0 (pos 1) (pos 0) (pos 0))
    -- the last correction: x by -2 before y by 2
    ∷ explains (awaiting 1 1 12 1 origin) (sample (negsuc 23) (pos 24) (pos 0)) (says 8 0 1 (negsuc 1) 0 1 (negsuc 23) (pos 24) (pos 0))
    -- y comes to 2^52 + 1, and the velocity of z to 2^40 + 11
    ∷ explains (awaiting 1 1 12 2 (point (pos 0) (pos (2 ^ 52 - 1)) (pos 0))) (sample (pos 0) (pos 24) (pos 0)) (says 6 0 2 (pos 0) 0 0 (pos 0) (pos 24) (pos 0))
    ∷ explains (awaiting 1 1 12 2 (point (pos 0) (pos 0) (pos (2 ^ 40 - 1)))) (sample (pos 0) (pos 0) (pos 24)) (says 6 0 6 (pos 0) 0 0 (pos 0) (pos 0) (pos 24))
    -- one tick too many on x, an infinity on y and a NaN on z: the NaN
    ∷ explains (awaiting 1 1 12 2 origin) (record { x = float (pos 268435457); y = inf true; z = nan }) (says_only 4 0 3 (pos 0) 0 0)
    -- without the NaN the infinity, of either sign; of two the first
    ∷ explains (awaiting 1 1 12 2 origin) (record { x = float (pos 268435457); y = inf true; z = float (pos 0) }) (says_only 13 0 2 (pos 0) 0 0)
    ∷ explains (awaiting 1 1 12 2 origin) (record { x = inf false; y = inf true; z = float (pos 268435457) }) (says_only 13 0 1 (pos 0) 0 0)
    -- one tick too many on z
    ∷ explains (awaiting 1 1 12 2 origin) (sample (pos 0) (pos 0) (pos 268435457)) (says_only 5 0 3 (pos 0) 0 0)
    -- no correction is awaited
    ∷ explains (opened 1 1 12 2 origin) (sample (pos 0) (pos 24) (pos 0)) (says_only 7 0 0 (pos 0) 0 0)
    -- accepted: both changes are what is allowed
    ∷ explains (awaiting 1 2 12 2 origin) (sample (pos 0) (pos 24) (pos 0)) (says 0 1 0 (pos 0) 0 0 (pos 0) (pos 24) (pos 0))
    -- a second correction, from 2 to 1: without differences
    ∷ explains (correct_of (awaiting 1 0 12 3 origin) (sample (pos 0) (pos 24) (pos 0))).session (sample (pos 0) (pos 12) (pos 0)) (says_only 0 2 2 (negsuc 0) 0 0)
    ∷ []
