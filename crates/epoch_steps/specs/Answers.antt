-- The paper's number and values of a round's answer: zeros where it carries nothing. Definitions only.
use Rattle.std.specs.Prelude.{ℕ, zero, suc, ◌-◌, List, [], ◌∷◌, ◌++◌, replicate}
use Rattle.epoch_session.specs.declared.Round.{Round}
use Rattle.epoch_session.specs.Rounds.{earlier_point}
use Rattle.steps.specs.declared.ReportedMotion.{ReportedMotion}
use Rattle.steps.specs.declared.ReportedPoint.{ReportedPoint}
use Rattle.steps.specs.Answers.{reported_point, no_point, no_change}
use Rattle.steps.specs.declared.After.{After}
use Rattle.epoch_steps.specs.declared.Outcome.{Outcome}
use Rattle.epoch_steps.specs.declared.RoundValues.{RoundValues}
use Rattle.epoch_steps.specs.declared.RoundAnswer.{RoundAnswer}
use Rattle.epoch_steps.specs.declared.Outcome.TheVariants.{More, Opened, Refused}

-- ---- the points

-- those of n-1, .., 1, 0 steps before the newest: the oldest first
unfoldable pub points_from : Round → ℕ → List ReportedPoint
points_from r zero = []
points_from r (suc n) = reported_point (earlier_point r n) ∷ points_from r n

-- nine places, of which the first p hold the round's points and the others nothing
unfoldable pub round_points : Round → List ReportedPoint
round_points r = points_from r r.points ++ replicate (9 - r.points) no_point

unfoldable pub no_points : List ReportedPoint
no_points = replicate 9 no_point

-- ---- the answer

-- the kind tells a round that asks for more, 2, and one that opens the session, 3, from a refusal, 0
abbrev pub values : ℕ → ℕ → ReportedMotion → List ReportedPoint → RoundValues
values number kind change track = record { number = number; kind = kind; change = change; track = track }

abbrev pub outcome_values : Outcome → List ReportedPoint → RoundValues
outcome_values (More c) track = values 0 2 c track
outcome_values Opened track = values 0 3 no_change track
outcome_values (Refused n) track = values n 0 no_change track

-- the record as a round leaves it, beside the answer
abbrev pub AfterRound : Type 0
AfterRound = After RoundAnswer

abbrev pub round_answer : RoundAnswer → RoundValues
round_answer a = outcome_values a.outcome a.track
