-- Which number refuses a round: the rules in their order, and the first that applies gives its number, 0 if none does. Definitions only.
use Rattle.std.specs.Prelude.{ℕ, ◌*◌, Bool, not, List, [], ◌∷◌, ◌++◌, eqb, Float, length}
use Rattle.integers.specs.Tests.{◌and◌}
use Rattle.rules.specs.Rules.{first_of}
use Rattle.epoch_coefficients.specs.Formulas.{has_centre}
use Rattle.axis.specs.Formulas.{places}
use Rattle.session.specs.declared.Point.{Point}
use Rattle.session.specs.declared.Session.{Session}
use Rattle.session.specs.Numbers.{points_hold, settings_hold}
use Rattle.session.specs.Moves.{estimate_of, point_in_range}
use Rattle.epoch_session.specs.declared.Round.{Round}
use Rattle.epoch_session.specs.Rounds.{round_of, round_in_range, rounds_agree}
use Rattle.epoch_session.specs.Records.{held_round, starting}
use Rattle.session.specs.Requests.{Request, exact_point}
use Rattle.steps.specs.Opening.{axis_samples}
use Rattle.steps.specs.Refusals.{sample_rules, is_last}

-- the round of an epoch and floats x, y, z, x, y, z, .. that begin with the oldest point
unfoldable pub given_round : ℕ → Point → List Float → Round
given_round p epoch floats =
    round_of p epoch (places p (axis_samples p 0 floats)) (places p (axis_samples p 1 floats)) (places p (axis_samples p 2 floats))

-- ---- a first round: as open, with 10 for a p that has no centre, and 6 for a point that was worked out at the end

abbrev pub first_round : Request → Round
first_round r = given_round r.points (exact_point r.point) r.floats

-- its samples, and the points that they give
abbrev pub first_rules : ℕ → Point → List Float → List (Bool × ℕ)
first_rules p epoch floats = sample_rules floats ++ (not (round_in_range (given_round p epoch floats)), 6) ∷ []

abbrev pub start_rules : Request → List (Bool × ℕ)
start_rules r =
    (not (points_hold r.points), 1)
    ∷ (not (has_centre r.points), 10)
    ∷ (not (eqb (length r.floats) (3 * r.points)), 2)
    ∷ (not (settings_hold r.tolerances r.limit), 3)
    ∷ (not (point_in_range (exact_point r.point)), 6)
    ∷ first_rules r.points (exact_point r.point) r.floats

unfoldable pub start_refusal : Request → ℕ
start_refusal r = first_of (start_rules r)

-- ---- a later round: its epoch is the record's, and it is compared with the round that the record holds

unfoldable pub later_round : Session → List Float → Round
later_round s floats = given_round s.points (estimate_of s) floats

abbrev pub later_rules : Session → Round → List (Bool × ℕ)
later_rules s r =
    (not (round_in_range r), 6)
    ∷ (not (rounds_agree s.tolerances r (held_round s)) and is_last s, 8)
    ∷ []

abbrev pub refine_rules : Session → List Float → List (Bool × ℕ)
refine_rules s floats =
    (not (starting s), 7)
    ∷ (not (eqb (length floats) (3 * s.points)), 2)
    ∷ (sample_rules floats ++ later_rules s (later_round s floats))

-- those that are looked at before the round is compared: all but the last
abbrev pub early_rules : Session → List Float → List (Bool × ℕ)
early_rules s floats =
    (not (starting s), 7)
    ∷ (not (eqb (length floats) (3 * s.points)), 2)
    ∷ (sample_rules floats ++ (not (round_in_range (later_round s floats)), 6) ∷ [])

unfoldable pub early_refusal : Session → List Float → ℕ
early_refusal s floats = first_of (early_rules s floats)

unfoldable pub refine_refusal : Session → List Float → ℕ
refine_refusal s floats = first_of (refine_rules s floats)
