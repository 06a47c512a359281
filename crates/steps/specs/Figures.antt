-- The figures to check by hand, H1 to H10, as one table: what the definitions give, row by row, and what the paper prints. y and z are zero.
use Rattle.std.specs.Prelude.{ℕ, true, false, List, [], ◌∷◌, ◌++◌, ℤ, pos, negsuc, ◌+ℤ◌, ◌-ℤ◌, ◌*ℤ◌, Float, replicate}
use Rattle.std.specs.Float.{binary64, fin}
use Rattle.std.specs.Float.Ieee.{of_int}
use Rattle.integers.specs.Lines.{Line, line}
use Rattle.integers.specs.Differences.{at, by_differences}
use Rattle.exact.specs.declared.Exact.{Exact}
use Rattle.exact.specs.Numerator.{wholly}
use Rattle.coefficients.specs.Formulas.{unsummed_cowell}
use Rattle.ticks.specs.Figures as Rounding
use Rattle.axis.specs.Formulas.{ticks, still}
use Rattle.session.specs.declared.Session.{Session}
use Rattle.session.specs.declared.WholePoint.{WholePoint}
use Rattle.session.specs.declared.State.{State}
use Rattle.session.specs.declared.State.TheVariants.{Closed, Settled, Awaiting}
use Rattle.steps.specs.declared.Answer.{Answer}
use Rattle.steps.specs.Answers.{answer, refused, reported_motion, reported_point, opening_answer, prediction_answer, correction_answer}
use Rattle.session.specs.Requests.{whole_motion, request}
use Rattle.steps.specs.Steps.{open_of, predict_of, correct_of}

-- ---- the calls of a row

pub data Call : Type 0 where
  predict : Call
  correct : ℤ → Call

-- a call's answer, and the record afterwards
pub record Shown : Type 0 where
  pub answer : Answer
  pub session : Session

abbrev float : ℤ → Float
float n = of_int binary64 n

-- the widest tolerance
abbrev widest : ℕ
widest = 1048576

-- an opening: p, the position tolerance beside the widest velocity tolerance, limit, x's position and velocity, floats
abbrev opens : ℕ → ℕ → ℕ → ℤ → ℤ → List Float → Shown
opens p tolerance limit x vx floats =
    let point : WholePoint = record { x = x; y = pos 0; z = pos 0; vx = vx; vy = pos 0; vz = pos 0 } in
    let r = open_of (request p (record { position = tolerance; velocity = widest }) limit point floats) in
    record { answer = opening_answer r.answer; session = r.session }

abbrev shown : Session → Call → Shown
shown s predict = let r = predict_of s in record { answer = prediction_answer r.answer; session = r.session }
shown s (correct n) =
    let r = correct_of s (record { x = float n; y = float (pos 0); z = float (pos 0) }) in
    record { answer = correction_answer r.answer; session = r.session }

-- calls in turn: what the last one shows
abbrev after : Shown → List Call → Shown
after last [] = last
after last (call ∷ rest) = after (shown last.session call) rest

-- p, position tolerance and limit; x's position, velocity and sample to open with; the calls that follow
abbrev row : ℕ → ℕ → ℕ → ℤ → ℤ → ℤ → List Call → Shown
row p tolerance limit position velocity sample calls =
    after (opens p tolerance limit position velocity (float sample ∷ float (pos 0) ∷ float (pos 0) ∷ [])) calls

-- H3's opening, with a position tolerance and a limit, and the calls that follow
abbrev h3 : ℕ → ℕ → List Call → Shown
h3 tolerance limit calls = row 1 tolerance limit (pos 1000) (pos 10) (pos 12) calls

-- ---- what the paper says of it

pub record Says : Type 0 where
  pub answer : Answer
  pub state : State
  pub accepted : ℕ
  pub corrections : ℕ

abbrev told : Shown → Says
told r = record { answer = r.answer; state = r.session.state; accepted = r.session.accepted; corrections = r.session.corrections }

-- the kind; position, velocity and the change of each in whole ticks; the record's state, its accepted points and corrections
abbrev says : ℕ → ℤ → ℤ → ℕ → ℕ → State → ℕ → ℕ → Says
says kind position velocity moved turned state accepted corrections =
    record {
      answer = answer 0 kind (reported_point (record { x = whole_motion position velocity; y = still; z = still })) (reported_motion (whole_motion (pos moved) (pos turned)));
      state = state;
      accepted = accepted;
      corrections = corrections;
    }

abbrev refuses : ℕ → State → Says
refuses number state = record { answer = refused number; state = state; accepted = 0; corrections = 0 }

abbrev exact_position : Shown → Exact
exact_position r = r.answer.point.x.position.exact

abbrev reported_position : Shown → Float
reported_position r = r.answer.point.x.position.report

-- ---- the table

abbrev sessions : List Line
sessions =
    -- H2, the refusal: by open and by correct
    line Says (told (row 1 0 1 (pos 0) (pos 0) (pos 268435457) [])) (refuses 5 Closed)
    ∷ line Says (told (h3 1 2 (predict ∷ correct (pos 268435457) ∷ []))) (refuses 5 Awaiting)
    -- H3
    ∷ line Exact (h3 1 2 []).session.x.first (wholly (pos 16))
    ∷ line Exact (h3 1 2 []).session.x.second (wholly (pos 1015))
    ∷ line Says (told (h3 1 2 (predict ∷ []))) (says 0 (pos 1016) (pos 22) 0 0 Awaiting 0 0)
    -- H4
    ∷ line Says (told (h3 1 2 (predict ∷ correct (pos 24) ∷ []))) (says 1 (pos 1017) (pos 28) 0 0 Settled 1 0)
    -- H5
    ∷ line Says (told (h3 0 2 (predict ∷ correct (pos 24) ∷ []))) (says 2 (pos 1017) (pos 28) 1 6 Awaiting 0 1)
    ∷ line Says (told (h3 0 2 (predict ∷ correct (pos 24) ∷ correct (pos 24) ∷ []))) (says 1 (pos 1017) (pos 28) 0 0 Settled 1 0)
    -- H6: the record is as it was opened
    ∷ line Says (told (h3 0 1 (predict ∷ correct (pos 24) ∷ []))) (refuses 8 Settled)
    ∷ line Session (h3 0 1 (predict ∷ correct (pos 24) ∷ [])).session (h3 0 1 []).session
    -- H7, with both sides of the unsummed formula
    ∷ line Says (told (h3 1 2 (predict ∷ correct (pos 24) ∷ predict ∷ []))) (says 0 (pos 1057) (pos 52) 0 0 Awaiting 1 0)
    ∷ line Says (told (h3 1 2 (predict ∷ correct (pos 24) ∷ predict ∷ correct (pos 24) ∷ []))) (says 1 (pos 1057) (pos 52) 0 0 Settled 2 0)
    ∷ line ℤ (pos 1057 -ℤ pos 2 *ℤ pos 1017 +ℤ pos 1000) (pos 23)
    ∷ line ℤ (by_differences (unsummed_cowell 1) (at (pos 24 ∷ pos 24 ∷ pos 12 ∷ []))) (ticks (pos 23))
    -- H8
    ∷ line Exact (exact_position (row 1 0 1 (pos 0) (pos 0) (pos 7) (predict ∷ []))) (record { whole = pos 3; part = 79833600 })
    ∷ line Float (reported_position (row 1 0 1 (pos 0) (pos 0) (pos 7) (predict ∷ []))) (fin false 7 (negsuc 0))
    ∷ line Exact (exact_position (row 1 0 1 (pos 0) (pos 0) (negsuc 6) (predict ∷ []))) (record { whole = negsuc 3; part = 79833600 })
    ∷ line Float (reported_position (row 1 0 1 (pos 0) (pos 0) (negsuc 6) (predict ∷ []))) (fin true 7 (negsuc 0))
    -- H9
    ∷ line Says (told (row 0 0 1 (pos 0) (pos 0) (pos 0) [])) (refuses 1 Closed)
    ∷ line Says (told (row 10 0 1 (pos 0) (pos 0) (pos 0) [])) (refuses 1 Closed)
    ∷ line Says (told (opens 3 0 1 (pos 0) (pos 0) (replicate 8 (float (pos 0))))) (refuses 2 Closed)
    ∷ line Says (told (row 1 0 0 (pos 0) (pos 0) (pos 0) [])) (refuses 3 Closed)
    ∷ line Says (told (row 1 0 9 (pos 0) (pos 0) (pos 0) [])) (refuses 3 Closed)
    -- H10: the first prediction stands
    ∷ line Says (told (h3 1 2 (predict ∷ predict ∷ []))) (refuses 7 Awaiting)
    ∷ line Session (h3 1 2 (predict ∷ predict ∷ [])).session (h3 1 2 (predict ∷ [])).session
    ∷ []

-- H1 and H2's rounding, then the sessions
abbrev pub figures : List Line
figures = Rounding.figures ++ sessions
