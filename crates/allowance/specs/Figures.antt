-- Runs worked out, one for each ending: what the definitions give, row by row, and what is expected. One back point; y and z are zero.
use Rattle.std.specs.Prelude.{ℕ, false, List, [], ◌∷◌, pos, Float}
use Rattle.std.specs.Float.{nan, inf, binary64}
use Rattle.std.specs.Float.Ieee.{of_int}
use Rattle.integers.specs.Lines.{Line, line}
use Rattle.session.specs.declared.Session.{Session}
use Rattle.session.specs.declared.State.{State}
use Rattle.session.specs.declared.State.TheVariants.{Settled, Awaiting}
use Rattle.session.specs.Moves.{became, closed_session}
use Rattle.session.specs.Requests.{request}
use Rattle.steps.specs.Steps.{open_of, predict_of}
use Rattle.running.specs.Runs.{come, run_of, AfterRun}

-- ---- sessions

abbrev float : ℕ → Float
float n = of_int binary64 (pos n)

-- opened with a position tolerance beside the widest velocity tolerance, a limit, and x's position, velocity and sample
abbrev opened : ℕ → ℕ → ℕ → ℕ → ℕ → Session
opened tolerance limit position velocity sample =
    (open_of (request 1 (record { position = tolerance; velocity = 1048576 }) limit (record { x = pos position; y = pos 0; z = pos 0; vx = pos velocity; vy = pos 0; vz = pos 0 })
    (float sample ∷ float 0 ∷ float 0 ∷ []))).session

-- as H3 opens
abbrev h3 : ℕ → ℕ → Session
h3 tolerance limit = opened tolerance limit 1000 10 12

-- with so many points accepted
abbrev with_accepted : ℕ → Session → Session
with_accepted n s = became s s.state n s.corrections s.x s.y s.z

-- ---- runs

-- samples of x, with zeros for y and z
abbrev samples : List Float → List Float
samples [] = []
samples (x ∷ xs) = x ∷ float 0 ∷ float 0 ∷ samples xs

pub record Says : Type 0 where
  pub number : ℕ
  pub points : ℕ
  pub used : ℕ
  pub state : State
  pub accepted : ℕ
  pub corrections : ℕ

abbrev told : AfterRun → Says
told r =
    record {
      number = r.answer.number;
      points = r.answer.points;
      used = r.answer.used;
      state = r.session.state;
      accepted = r.session.accepted;
      corrections = r.session.corrections;
    }

-- a run with samples of x, and the number, points and used samples that it answers, the record's state, its accepted points and corrections
abbrev row : Session → ℕ → List Float → ℕ → ℕ → ℕ → State → ℕ → ℕ → Line
row s wanted xs number points used state accepted corrections =
    line Says (told (run_of s (samples xs) wanted)) (record { number = number; points = points; used = used; state = state; accepted = accepted; corrections = corrections })

-- one that is refused before any call
abbrev turned : Session → List Float → ℕ → ℕ → Line
turned s floats wanted number = line AfterRun (run_of s floats wanted) (come s number 0 0)

abbrev pub figures : List Line
figures =
    -- the points: one, of H4, with a sample left, and two, of H7; with two corrections, of H5; none wanted
    row (h3 1 2) 1 (float 24 ∷ float 24 ∷ []) 0 1 1 Settled 1 0
    ∷ row (h3 1 2) 2 (float 24 ∷ float 24 ∷ []) 0 2 2 Settled 2 0
    ∷ row (h3 0 2) 1 (float 24 ∷ float 24 ∷ []) 0 1 2 Settled 1 0
    ∷ row (h3 1 2) 0 (float 24 ∷ []) 0 0 0 Settled 0 0
    -- no sample left: settled, with no prediction after the last sample; awaiting a correction; none to begin with
    ∷ row (h3 1 2) 3 (float 24 ∷ float 24 ∷ []) 0 2 2 Settled 2 0
    ∷ row (h3 0 2) 1 (float 24 ∷ []) 0 0 1 Awaiting 0 1
    ∷ row (h3 1 2) 1 [] 0 0 0 Settled 0 0
    -- 4, 13 and 5: the sample is used, and what follows it is not read; one after an accepted point
    ∷ row (h3 1 2) 1 (nan ∷ float 24 ∷ []) 4 0 1 Awaiting 0 0
    ∷ row (h3 1 2) 2 (float 24 ∷ nan ∷ []) 4 1 2 Awaiting 1 0
    ∷ row (h3 1 2) 1 (inf false ∷ float 24 ∷ []) 13 0 1 Awaiting 0 0
    ∷ row (h3 1 2) 1 (float 268435457 ∷ float 24 ∷ []) 5 0 1 Awaiting 0 0
    -- 6: a corrected point out of range, and a predicted one, for which no sample is used
    ∷ row (opened 1 2 4503599627370495 0 0) 1 (float 12 ∷ float 0 ∷ []) 6 0 1 Awaiting 0 0
    ∷ row (opened 1 2 4503599627370495 1 0) 1 (float 0 ∷ []) 6 0 0 Settled 0 0
    -- 9: at once, and after the last point
    ∷ row (with_accepted 1000000 (h3 1 2)) 1 (float 24 ∷ []) 9 0 0 Settled 1000000 0
    ∷ row (with_accepted 999999 (h3 1 2)) 2 (float 24 ∷ float 24 ∷ []) 9 1 1 Settled 1000000 0
    -- 8, where the allowance is used up: limit 1 and no point, limit 8 and no point, limit 2 and one point
    ∷ row (h3 0 1) 1 (float 24 ∷ float 24 ∷ []) 8 0 1 Settled 0 0
    ∷ row (h3 0 8) 1 (float 24 ∷ float 36 ∷ float 24 ∷ float 36 ∷ float 24 ∷ float 36 ∷ float 24 ∷ float 36 ∷ float 36 ∷ []) 8 0 8 Settled 0 0
    ∷ row (h3 0 2) 2 (float 24 ∷ float 24 ∷ float 48 ∷ float 72 ∷ float 72 ∷ []) 8 1 4 Settled 1 0
    -- 7: awaiting, closed, and before 2; also where no point is wanted
    ∷ turned (predict_of (h3 1 2)).session (samples (float 24 ∷ [])) 1 7
    ∷ turned closed_session (samples (float 24 ∷ [])) 0 7
    ∷ turned (predict_of (h3 1 2)).session (float 24 ∷ []) 1 7
    -- 2: one float too many, or too few; also where no point is wanted
    ∷ turned (h3 1 2) (float 24 ∷ float 0 ∷ float 0 ∷ float 24 ∷ []) 1 2
    ∷ turned (h3 1 2) (float 24 ∷ float 0 ∷ []) 0 2
    ∷ []
