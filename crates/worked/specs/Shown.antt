-- What the tables are written with: points, records and requests in literals, and what a call shows of its answer and of the record. Definitions only.
use Rattle.std.specs.Prelude.{ℕ, List, [], ◌∷◌, ◌++◌, map, ℤ, pos, neg_ℤ, Float, replicate}
use Rattle.std.specs.Float.{binary64}
use Rattle.std.specs.Float.Ieee.{of_int}
use Rattle.integers.specs.Lines.{Line, line}
use Rattle.exact.specs.declared.Exact.{Exact}
use Rattle.ticks.specs.declared.Sample.{Sample}
use Rattle.axis.specs.declared.Motion.{Motion}
use Rattle.axis.specs.declared.Axis.{Axis}
use Rattle.axis.specs.declared.Tolerances.{Tolerances}
use Rattle.session.specs.declared.Point.{Point}
use Rattle.session.specs.declared.WholePoint.{WholePoint}
use Rattle.session.specs.declared.Session.{Session}
use Rattle.session.specs.declared.State.{State}
use Rattle.session.specs.declared.State.TheVariants.{Closed}
use Rattle.session.specs.Requests.{Request}
use Rattle.steps.specs.declared.ReportedMotion.{ReportedMotion}
use Rattle.steps.specs.declared.ReportedPoint.{ReportedPoint}
use Rattle.steps.specs.declared.Answer.{Answer}
use Rattle.steps.specs.Answers.{opening_answer, prediction_answer, correction_answer, withdrawal_answer}
use Rattle.steps.specs.Steps.{open_of, predict_of, correct_of, withdraw_of}
use Rattle.epoch_session.specs.declared.Round.{Round}
use Rattle.epoch_steps.specs.declared.RoundValues.{RoundValues}
use Rattle.epoch_steps.specs.Answers.{round_answer, AfterRound}
use Rattle.epoch_steps.specs.Steps.{start_of, refine_of}

-- ---- values

abbrev pub minus : ℕ → ℤ
minus n = neg_ℤ (pos n)

-- a whole number of ticks and a part over D
abbrev pub value : ℤ → ℕ → Exact
value whole part = record { whole = whole; part = part }

-- a position and a velocity, each by its whole and its part
abbrev pub motion : ℤ → ℕ → ℤ → ℕ → Motion
motion whole part vwhole vpart = record { position = value whole part; velocity = value vwhole vpart }

abbrev pub none : Motion
none = motion (pos 0) 0 (pos 0) 0

abbrev pub point : Motion → Motion → Motion → Point
point x y z = record { x = x; y = y; z = z }

abbrev pub nothing : Point
nothing = point none none none

abbrev pub whole : ℤ → ℤ → ℤ → ℤ → ℤ → ℤ → WholePoint
whole x y z vx vy vz = record { x = x; y = y; z = z; vx = vx; vy = vy; vz = vz }

abbrev pub float : ℤ → Float
float n = of_int binary64 n

abbrev pub floats : List ℤ → List Float
floats ns = map float ns

abbrev pub sample : ℤ → ℤ → ℤ → Sample
sample x y z = record { x = float x; y = float y; z = float z }

abbrev pub tolerances : ℕ → ℕ → Tolerances
tolerances position velocity = record { position = position; velocity = velocity }

-- ---- records

-- S1 and S2, what the older samples give, the used samples, newest first, beside so many empty places, and the estimate
abbrev pub axis : Exact → Exact → Motion → List ℤ → ℕ → Motion → Axis
axis first second older samples empty estimate =
    record { first = first; second = second; older = older; samples = samples ++ replicate empty (pos 0); estimate = estimate }

-- state, p, the tolerances, limit, accepted points, corrections and the three axes
abbrev pub filled : State → ℕ → Tolerances → ℕ → ℕ → ℕ → Axis → Axis → Axis → Session
filled state points given limit accepted corrections x y z =
    record {
      state = state;
      points = points;
      tolerances = given;
      limit = limit;
      accepted = accepted;
      corrections = corrections;
      x = x;
      y = y;
      z = z;
    }

-- p, and the axes at the newest point
abbrev pub round : ℕ → Axis → Axis → Axis → Round
round points x y z = record { points = points; x = x; y = y; z = z }

abbrev pub calm : Axis
calm = axis (value (pos 0) 0) (value (pos 0) 0) none [] 9 none

-- closed, and zero in every field
abbrev pub closed : Session
closed = filled Closed 0 (tolerances 0 0) 0 0 0 calm calm calm

-- ---- what a call shows: number, kind, the exact values of its points and of the change, and the record afterwards

pub record Shown : Type 0 where
  pub number : ℕ
  pub kind : ℕ
  pub points : List Point
  pub change : Motion
  pub session : Session

abbrev pub shows : ℕ → ℕ → List Point → Motion → Session → Shown
shows number kind points change session = record { number = number; kind = kind; points = points; change = change; session = session }

-- without the reports
abbrev bare_motion : ReportedMotion → Motion
bare_motion m = record { position = m.position.exact; velocity = m.velocity.exact }

abbrev bare_point : ReportedPoint → Point
bare_point q = point (bare_motion q.x) (bare_motion q.y) (bare_motion q.z)

abbrev of_step : Answer → Session → Shown
of_step a s = shows a.number a.kind (bare_point a.point ∷ []) (bare_motion a.change) s

abbrev of_values : RoundValues → Session → Shown
of_values a s = shows a.number a.kind (map bare_point a.track) (bare_motion a.change) s

abbrev pub of_round : AfterRound → Shown
of_round after = of_values (round_answer after.answer) after.session

-- ---- the calls

abbrev pub opening : Request → Shown
opening r = let after = open_of r in of_step (opening_answer after.answer) after.session

abbrev pub starts : Request → Shown
starts r = of_round (start_of r)

pub data Call : Type 0 where
  predict : Call
  correct : Sample → Call
  withdraw : Call
  refine : List Float → Call

abbrev pub shown : Session → Call → Shown
shown s predict = let after = predict_of s in of_step (prediction_answer after.answer) after.session
shown s (correct a) = let after = correct_of s a in of_step (correction_answer after.answer) after.session
shown s withdraw = let after = withdraw_of s in of_step (withdrawal_answer after.answer) after.session
shown s (refine given) = of_round (refine_of s given)

-- calls in turn: what the last one shows
abbrev pub after_all : Shown → List Call → Shown
after_all last [] = last
after_all last (call ∷ rest) = after_all (shown last.session call) rest

-- ---- refusals: a number, and zero in every other field of the answer

abbrev pub refused : ℕ → Session → Shown
refused number s = shows number 0 (nothing ∷ []) none s

abbrev pub refused_round : ℕ → Session → Shown
refused_round number s = shows number 0 (replicate 9 nothing) none s

-- a record that counts as closed: the call answers 7 and leaves it as it was
abbrev left_closed : Call → Session → Shown
left_closed predict s = refused 7 s
left_closed (correct a) s = refused 7 s
left_closed withdraw s = refused 7 s
left_closed (refine given) s = refused_round 7 s

abbrev pub closed_to : Call → Session → Line
closed_to call s = line Shown (shown s call) (left_closed call s)

-- the call answers a number
abbrev pub numbered : Call → ℕ → Session → Line
numbered call number s = line ℕ (shown s call).number number
