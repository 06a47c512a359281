-- The paper's table of refusals, a list for each call in its order, with the conditions as statements. Definitions only.
use Rattle.std.specs.Prelude.{◌≡◌, ◌⊎◌, List, [], ◌∷◌, ◌++◌, ℕ, ◌+◌, ◌*◌, ◌^◌, ◌≤◌, ◌<◌, nat_abs, ◌-ℤ◌, Float, length}
use Rattle.std.specs.Float.{nan, inf, fin}
use Rattle.std.specs.Float.Ieee.{up, down}
use Rattle.std.specs.Float.Ieee.Nearest.{closest}
use Rattle.ticks.specs.declared.Sample.{Sample}
use Rattle.ticks.specs.Samples.{axes_of, whole_of}
use Rattle.axis.specs.declared.Tolerances.{Tolerances}
use Rattle.session.specs.declared.Point.{Point}
use Rattle.session.specs.declared.Session.{Session}
use Rattle.session.specs.Moves.{estimate_of, predicted_point, corrected_point}
use Rattle.rules.specs.Rules.{Rule, rule}
use Rattle.session.specs.Requests.{Request, exact_point}
use Rattle.epoch_session.specs.declared.Round.{Round}
use Rattle.epoch_session.specs.Rounds.{earlier_point}
use Rattle.epoch_session.specs.Records.{held_round}
use Rattle.epoch_steps.specs.Refusals.{first_round, later_round}
use Rattle.demands.specs.Coordinates.{position_of, velocity_of}
use Rattle.session.specs.Coordinates.{Coordinate}
use Rattle.demands.specs.Records.{SomePoints, Settings, per_tick, InRange, TrackInRange, SettledRecord, AwaitingRecord, StartingRecord}

-- ---- the conditions that need a word of their own

abbrev pub Some : (Float → Type 0) → List Float → Type 0
Some P [] = ⊥
Some P (x ∷ xs) = P x ⊎ Some P xs

-- a NaN; no other float is one
abbrev pub NotANumber : Float → Type 0
NotANumber nan = Unit {0}
NotANumber (inf s) = ⊥
NotANumber (fin s m e) = ⊥

-- an infinity, of either sign
abbrev pub Infinite : Float → Type 0
Infinite nan = ⊥
Infinite (inf s) = Unit {0}
Infinite (fin s m e) = ⊥

-- to the nearest whole tick it is more than 2^28, either way
abbrev pub TooLarge : Float → Type 0
TooLarge nan = ⊥
TooLarge (inf s) = ⊥
TooLarge (fin s m e) = 2 ^ 28 < closest (m * up e) (down e)

-- exact changes, all six: on no axis has the position moved by more than the one tolerance, or the velocity by more than the other
abbrev pub Near : Tolerances → Point → Point → Type 0
Near t q before =
    (k : Coordinate) →
    (nat_abs (position_of k q -ℤ position_of k before) ≤ t.position * per_tick) × (nat_abs (velocity_of k q -ℤ velocity_of k before) ≤ t.velocity * per_tick)

-- a corrected point, from the last estimate
abbrev pub Within : Session → Point → Type 0
Within s q = Near s.tolerances q (estimate_of s)

-- this correction is the last that the limit allows
abbrev pub Last : Session → Type 0
Last s = s.limit ≤ s.corrections + 1

-- every point of a round, from the round that the record holds
abbrev pub RoundWithin : Session → Round → Type 0
RoundWithin s r = (j : ℕ) → j < r.points → Near s.tolerances (earlier_point r j) (earlier_point (held_round s) j)

-- p is even
abbrev pub Even : ℕ → Type 0
Even p = (m : ℕ) × (p ≡ m + m)

-- ---- the tables

-- samples: all of them are looked at for 4, then all for 13, then all for 5
abbrev pub sample_table : List Float → List Rule
sample_table xs =
    rule 4 (Some NotANumber xs)
    ∷ rule 13 (Some Infinite xs)
    ∷ rule 5 (Some TooLarge xs)
    ∷ []

abbrev pub open_table : Request → List Rule
open_table r =
    rule 1 (¬ SomePoints r.points)
    ∷ rule 2 (¬ (length r.floats ≡ 3 * r.points))
    ∷ rule 3 (¬ Settings r.tolerances r.limit)
    ∷ rule 6 (¬ InRange (exact_point r.point))
    ∷ sample_table r.floats

abbrev pub predict_table : Session → List Rule
predict_table s =
    rule 7 (¬ SettledRecord s)
    ∷ rule 9 (1000000 ≤ s.accepted)
    ∷ rule 6 (¬ InRange (predicted_point s))
    ∷ []

abbrev pub correct_table : Session → Sample → List Rule
correct_table s a =
    rule 7 (¬ AwaitingRecord s)
    ∷ (sample_table (axes_of a)
    ++ rule 6 (¬ InRange (corrected_point s (whole_of a)))
    ∷ rule 8 ((¬ Within s (corrected_point s (whole_of a))) × Last s)
    ∷ [])

abbrev pub withdraw_table : Session → List Rule
withdraw_table s = rule 7 (¬ AwaitingRecord s) ∷ []

-- a first round: as an open, with 10 after 1, and 6 for a point that was worked out at the end
abbrev pub start_table : Request → List Rule
start_table r =
    rule 1 (¬ SomePoints r.points)
    ∷ rule 10 (Even r.points ⊎ (r.points ≡ 1))
    ∷ rule 2 (¬ (length r.floats ≡ 3 * r.points))
    ∷ rule 3 (¬ Settings r.tolerances r.limit)
    ∷ rule 6 (¬ InRange (exact_point r.point))
    ∷ (sample_table r.floats
    ++ rule 6 (¬ TrackInRange (first_round r))
    ∷ [])

-- a later round
abbrev pub refine_table : Session → List Float → List Rule
refine_table s floats =
    rule 7 (¬ StartingRecord s)
    ∷ rule 2 (¬ (length floats ≡ 3 * s.points))
    ∷ (sample_table floats
    ++ rule 6 (¬ TrackInRange (later_round s floats))
    ∷ rule 8 ((¬ RoundWithin s (later_round s floats)) × Last s)
    ∷ [])
