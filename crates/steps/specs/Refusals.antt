-- Which number refuses a call: each call has its rules in the paper's order, and the first that applies gives its number, 0 if none does. Definitions only.
use Rattle.std.specs.Prelude.{ℕ, ◌+◌, ◌*◌, Bool, not, List, [], ◌∷◌, ◌++◌, eqb, leb, Option, Some, None, Float, length}
use Rattle.integers.specs.Tests.{◌and◌}
use Rattle.rules.specs.Rules.{first_of}
use Rattle.ticks.specs.declared.Fault.{Fault}
use Rattle.ticks.specs.declared.Fault.TheVariants.{NotANumber, Infinite, TooLarge}
use Rattle.ticks.specs.declared.Sample.{Sample}
use Rattle.ticks.specs.Round.{is_not_a_number, is_infinite, is_too_large}
use Rattle.ticks.specs.Samples.{any, axes_of, whole_of}
use Rattle.axis.specs.Kinds.{Kind}
use Rattle.session.specs.declared.Point.{Point}
use Rattle.session.specs.declared.Session.{Session}
use Rattle.session.specs.Numbers.{points_hold, settings_hold, most_points}
use Rattle.session.specs.Moves.{estimate_of, predicted_point, corrected_point, point_in_range}
use Rattle.session.specs.Apart.{points_agree, point_change}
use Rattle.session.specs.Holding.{settled, awaiting}
use Rattle.session.specs.Requests.{Request, exact_point}

-- ---- samples: all of them are looked at for 4, then all for 13, then all for 5

abbrev pub sample_rules : List Float → List (Bool × ℕ)
sample_rules xs =
    (any is_not_a_number xs, 4)
    ∷ (any is_infinite xs, 13)
    ∷ (any is_too_large xs, 5)
    ∷ []

-- the same by what is wrong with the floats, as the code finds it
abbrev pub fault_number : Option Fault → ℕ
fault_number None = 0
fault_number (Some NotANumber) = 4
fault_number (Some Infinite) = 13
fault_number (Some TooLarge) = 5

-- ---- open

abbrev pub open_rules : Request → List (Bool × ℕ)
open_rules r =
    (not (points_hold r.points), 1)
    ∷ (not (eqb (length r.floats) (3 * r.points)), 2)
    ∷ (not (settings_hold r.tolerances r.limit), 3)
    ∷ (not (point_in_range (exact_point r.point)), 6)
    ∷ sample_rules r.floats

unfoldable pub open_refusal : Request → ℕ
open_refusal r = first_of (open_rules r)

-- ---- predict

-- no further point is accepted
unfoldable pub full : Session → Bool
full s = leb most_points s.accepted

abbrev pub predict_rules : Session → List (Bool × ℕ)
predict_rules s =
    (not (settled s), 7)
    ∷ (full s, 9)
    ∷ (not (point_in_range (predicted_point s)), 6)
    ∷ []

unfoldable pub predict_refusal : Session → ℕ
predict_refusal s = first_of (predict_rules s)

-- ---- correct

-- all six changes from the last estimate are at most their own tolerance
unfoldable pub agrees : Session → Point → Bool
agrees s q = points_agree s.tolerances q (estimate_of s)

-- of each kind the largest change of an axis
unfoldable pub largest_change : Session → Point → Kind → ℕ
largest_change s q = point_change q (estimate_of s)

-- this correction is the last that the limit allows
unfoldable pub is_last : Session → Bool
is_last s = leb s.limit (s.corrections + 1)

-- the corrected point
abbrev pub point_rules : Session → Point → List (Bool × ℕ)
point_rules s q =
    (not (point_in_range q), 6)
    ∷ (not (agrees s q) and is_last s, 8)
    ∷ []

abbrev pub correct_rules : Session → Sample → List (Bool × ℕ)
correct_rules s a = (not (awaiting s), 7) ∷ (sample_rules (axes_of a) ++ point_rules s (corrected_point s (whole_of a)))

-- those that are looked at before the point is compared with the estimate: all but the last
abbrev pub early_rules : Session → Sample → List (Bool × ℕ)
early_rules s a = (not (awaiting s), 7) ∷ (sample_rules (axes_of a) ++ (not (point_in_range (corrected_point s (whole_of a))), 6) ∷ [])

unfoldable pub early_refusal : Session → Sample → ℕ
early_refusal s a = first_of (early_rules s a)

unfoldable pub correct_refusal : Session → Sample → ℕ
correct_refusal s a = first_of (correct_rules s a)

-- ---- withdraw

abbrev pub withdraw_rules : Session → List (Bool × ℕ)
withdraw_rules s = (not (awaiting s), 7) ∷ []

unfoldable pub withdraw_refusal : Session → ℕ
withdraw_refusal s = first_of (withdraw_rules s)
