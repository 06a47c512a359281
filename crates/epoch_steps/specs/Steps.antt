-- The two calls of a start: the record that each leaves, and its answer. Definitions only.
use Rattle.std.specs.Prelude.{ℕ, zero, suc, ◌+◌, Bool, true, false, cond, List, eqb, Float}
use Rattle.axis.specs.declared.Tolerances.{Tolerances}
use Rattle.session.specs.declared.Point.{Point}
use Rattle.session.specs.declared.Session.{Session}
use Rattle.session.specs.Moves.{estimate_of, closed_session}
use Rattle.epoch_session.specs.declared.Round.{Round}
use Rattle.epoch_session.specs.Rounds.{rounds_agree, largest_move}
use Rattle.epoch_session.specs.Records.{held_round, starting_session, opened_round}
use Rattle.steps.specs.Answers.{reported_change, no_change, unless}
use Rattle.session.specs.Requests.{Request, exact_point}
use Rattle.epoch_steps.specs.declared.RoundValues.{RoundValues}
use Rattle.epoch_steps.specs.declared.RoundAnswer.{RoundAnswer}
use Rattle.epoch_steps.specs.declared.Outcome.{Outcome}
use Rattle.epoch_steps.specs.declared.Outcome.TheVariants.{More, Opened, Refused}
use Rattle.epoch_steps.specs.Answers.{round_points, no_points, values, AfterRound}
use Rattle.epoch_steps.specs.Refusals.{first_round, start_refusal, later_round, refine_refusal}

abbrev pub told : Outcome → Round → RoundAnswer
told outcome r = record { outcome = outcome; track = round_points r }

abbrev pub refused : ℕ → RoundAnswer
refused n = record { outcome = Refused n; track = no_points }

-- starting from a round, after so many later ones
abbrev pub starting_from : Tolerances → ℕ → ℕ → Point → Round → Session
starting_from tolerances limit rounds epoch r = starting_session r.points tolerances limit rounds epoch r.x.samples r.y.samples r.z.samples

-- ---- a first round: whatever the record held before; it always asks for more, and was compared with nothing

abbrev pub start_by : ℕ → Tolerances → ℕ → Point → Round → AfterRound
start_by zero tolerances limit epoch r = record { session = starting_from tolerances limit 0 epoch r; answer = told (More no_change) r }
start_by (suc n) tolerances limit epoch r = record { session = closed_session; answer = refused (suc n) }

unfoldable pub start_of : Request → AfterRound
start_of r = start_by (start_refusal r) r.tolerances r.limit (exact_point r.point) (first_round r)

-- ---- a later round

-- nothing moved beyond its tolerance, and the session opens, or something did, and more is asked for
abbrev pub judged_round : Bool → Session → Round → AfterRound
judged_round true s r = record { session = opened_round s.tolerances s.limit r; answer = told Opened r }
judged_round false s r =
    record {
      session = starting_from s.tolerances s.limit (s.corrections + 1) (estimate_of s) r;
      answer = told (More (reported_change (largest_move r (held_round s)))) r;
    }

-- 8 closes the record; every other refusal leaves it as it was
abbrev pub refine_by : ℕ → Session → Round → AfterRound
refine_by zero s r = judged_round (rounds_agree s.tolerances r (held_round s)) s r
refine_by (suc n) s r = record { session = cond (eqb (suc n) 8) closed_session s; answer = refused (suc n) }

unfoldable pub refine_of : Session → List Float → AfterRound
refine_of s floats = refine_by (refine_refusal s floats) s (later_round s floats)

-- ---- what each call answers, in the paper's shape

abbrev pub start_answer_by : ℕ → Round → RoundValues
start_answer_by n r = values n (unless n 2 0) no_change (unless n (round_points r) no_points)

abbrev pub start_answer : Request → RoundValues
start_answer r = start_answer_by (start_refusal r) (first_round r)

-- kind 3 without a change, or 2 with one
abbrev pub refine_answer_by : ℕ → Session → Round → RoundValues
refine_answer_by n s r =
    let agreed = rounds_agree s.tolerances r (held_round s) in
    values n
    (unless n (cond agreed 3 2) 0)
    (unless n (cond agreed no_change (reported_change (largest_move r (held_round s)))) no_change)
    (unless n (round_points r) no_points)

abbrev pub refine_answer : Session → List Float → RoundValues
refine_answer s floats = refine_answer_by (refine_refusal s floats) s (later_round s floats)
