-- The six calls as they were before a record held the sum of its older samples, on the record without it; kept for the one statement at the end.
-- Zero stands in the place of what is not there. Definitions only.
use Rattle.std.specs.Prelude.{◌≡◌, ℕ, ◌*◌, Bool, not, List, [], ◌∷◌, ◌++◌, eqb, ltb, Float, length}
use Rattle.integers.specs.Tests.{◌and◌}
use Rattle.rules.specs.Rules.{first_of}
use Rattle.ticks.specs.declared.Sample.{Sample}
use Rattle.ticks.specs.Samples.{axes_of, whole_of}
use Rattle.epoch_coefficients.specs.Formulas.{has_centre}
use Rattle.axis.specs.declared.Axis.{Axis}
use Rattle.axis.specs.Formulas.{axis_with, still}
use Rattle.axis.specs.Holding.{remainders_hold, samples_small, empty_zero}
use Rattle.session.specs.declared.Session.{Session}
use Rattle.session.specs.Numbers.{settings_hold}
use Rattle.session.specs.Moves.{became, present_point, estimate_of, predicted_point, corrected_point, point_in_range}
use Rattle.session.specs.Holding.{every_axis, counts_hold, state_holds, is_settled, is_awaiting}
use Rattle.session.specs.Requests.{Request}
use Rattle.epoch_session.specs.Records.{axes_start, is_starting}
use Rattle.steps.specs.Refusals.{full, sample_rules, point_rules}
use Rattle.steps.specs.Steps.{open_of, predict_by, correct_by, withdraw_by}
use Rattle.epoch_steps.specs.Refusals.{later_round, later_rules}
use Rattle.epoch_steps.specs.Steps.{start_of, refine_by}
use Rattle.demands.specs.Histories.{Implementation, Call, step, event, history, Act, lived}
use Rattle.demands.specs.Held.{HeldTrue}
use Rattle.steps.specs.Answers.{AfterOpen, AfterPredict, AfterCorrect, AfterWithdraw}
use Rattle.epoch_steps.specs.Answers.{AfterRound}

-- ---- the record without its held sums

abbrev pub bare_axis : Axis → Axis
bare_axis a = axis_with a.first a.second still a.samples a.estimate

abbrev pub bare : Session → Session
bare s = became s s.state s.accepted s.corrections (bare_axis s.x) (bare_axis s.y) (bare_axis s.z)

-- ---- which records counted as settled, awaiting and starting: every clause but that of the held sums

unfoldable pub holds_before : Session → Bool
holds_before s =
    counts_hold s
    and every_axis s (λ a. samples_small a.samples)
    and every_axis s remainders_hold
    and point_in_range (present_point s)
    and point_in_range (estimate_of s)
    and every_axis s (λ a. empty_zero s.points a.samples)
    and state_holds s.state s

unfoldable pub start_holds_before : Session → Bool
start_holds_before s =
    has_centre s.points
    and settings_hold s.tolerances s.limit
    and eqb s.accepted 0
    and ltb s.corrections s.limit
    and axes_start s

abbrev pub settled_before : Session → Bool
settled_before s = is_settled s.state and holds_before s

abbrev pub awaiting_before : Session → Bool
awaiting_before s = is_awaiting s.state and holds_before s

abbrev pub starting_before : Session → Bool
starting_before s = is_starting s.state and start_holds_before s

-- ---- the rules of the calls, by these tests

abbrev pub predict_rules_before : Session → List (Bool × ℕ)
predict_rules_before s = (not (settled_before s), 7) ∷ (full s, 9) ∷ (not (point_in_range (predicted_point s)), 6) ∷ []

abbrev pub correct_rules_before : Session → Sample → List (Bool × ℕ)
correct_rules_before s a = (not (awaiting_before s), 7) ∷ (sample_rules (axes_of a) ++ point_rules s (corrected_point s (whole_of a)))

abbrev pub withdraw_rules_before : Session → List (Bool × ℕ)
withdraw_rules_before s = (not (awaiting_before s), 7) ∷ []

abbrev pub refine_rules_before : Session → List Float → List (Bool × ℕ)
refine_rules_before s floats =
    (not (starting_before s), 7)
    ∷ (not (eqb (length floats) (3 * s.points)), 2)
    ∷ (sample_rules floats ++ later_rules s (later_round s floats))

-- ---- the calls: the same moves and answers, and records without held sums

unfoldable pub open_before : Request → AfterOpen
open_before r = let a = open_of r in record { session = bare a.session; answer = a.answer }

unfoldable pub predict_before : Session → AfterPredict
predict_before s = let a = predict_by (first_of (predict_rules_before s)) s in record { session = bare a.session; answer = a.answer }

unfoldable pub correct_before : Session → Sample → AfterCorrect
correct_before s x = let a = correct_by (first_of (correct_rules_before s x)) s (whole_of x) in record { session = bare a.session; answer = a.answer }

unfoldable pub withdraw_before : Session → AfterWithdraw
withdraw_before s = let a = withdraw_by (first_of (withdraw_rules_before s)) s in record { session = bare a.session; answer = a.answer }

unfoldable pub start_before : Request → AfterRound
start_before r = let a = start_of r in record { session = bare a.session; answer = a.answer }

unfoldable pub refine_before : Session → List Float → AfterRound
refine_before s floats =
    let a = refine_by (first_of (refine_rules_before s floats)) s (later_round s floats) in
    record { session = bare a.session; answer = a.answer }

abbrev pub before : Implementation
before =
    record {
      opens = λ s. open_before;
      predicts = predict_before;
      corrects = correct_before;
      withdraws = withdraw_before;
      starts = λ s. start_before;
      refines = refine_before;
    }

-- ---- the statement: the same answers, and the same record but for its held sums

pub record Unchanged (I J : Implementation) : Type 0 where
  -- an open and a first round, whatever record they replace
  pub opens : (s t : Session) (r : Request) → ((J.opens t r).answer ≡ (I.opens s r).answer) × ((J.opens t r).session ≡ bare (I.opens s r).session)
  pub starts : (s t : Session) (r : Request) → ((J.starts t r).answer ≡ (I.starts s r).answer) × ((J.starts t r).session ≡ bare (I.starts s r).session)
  -- every other call, on a record whose held sums are true
  pub steps : (s : Session) → HeldTrue s → (call : Call) → (event J (bare s) call ≡ event I s call) × (step J (bare s) call ≡ bare (step I s call))
  -- and so of any calls up to the next opening, and of all calls in any order
  pub histories : (s : Session) → HeldTrue s → (calls : List Call) → history J (bare s) calls ≡ history I s calls
  pub lives : (s : Session) → HeldTrue s → (acts : List Act) → lived J (bare s) acts ≡ bare (lived I s acts)
