-- The first value at fault: what is tested of each value, and for each number which reason it has. Definitions only.
use Rattle.std.specs.Prelude.{ℕ, suc, Bool, not, cond, List, [], ◌∷◌, eqb, pos, Option, Some, None, Float}
use Rattle.exact.specs.declared.Exact.{Exact}
use Rattle.exact.specs.declared.Reported.{Reported}
use Rattle.exact.specs.Numerator.{exact_of, wholly}
use Rattle.exact.specs.Report.{reported_of}
use Rattle.ticks.specs.declared.Fault.{Fault}
use Rattle.ticks.specs.declared.Fault.TheVariants.{TooLarge, Infinite, NotANumber}
use Rattle.ticks.specs.Round.{rounded_of, is_not_a_number, is_infinite, is_too_large}
use Rattle.axis.specs.Kinds.{tolerance_of, moved_by, within}
use Rattle.session.specs.declared.Point.{Point}
use Rattle.session.specs.declared.Session.{Session}
use Rattle.session.specs.Moves.{estimate_of}
use Rattle.session.specs.Values.{Value, six, in_range_at, within_at, change_at}
use Rattle.reasons.specs.declared.Reason.{Reason}

-- ---- what a reason says

abbrev pub reason : ℕ → Reported → ℕ → Reason
reason value change tolerance = record { value = value; change = change; tolerance = tolerance }

-- a place alone: no change was compared
unfoldable pub placed : ℕ → Reason
placed n = reason n (reported_of (wholly (pos 0))) 0

-- none is named
abbrev pub no_reason : Reason
no_reason = placed 0

abbrev pub named : {A : Type 0} → ℕ → A → Reason
named n x = placed n

-- a value that moved from the last estimate: now less before, and the tolerance of its kind
unfoldable pub moved : Session → Point → ℕ → Value → Reason
moved s q n v = reason n (reported_of (exact_of (change_at q (estimate_of s) v))) (tolerance_of v.kind s.tolerances)

-- ---- the first of a list for which a test is true: what is said of it and of its place, counted from n; no reason where there is none

unfoldable pub first_from : {A : Type 0} → ℕ → (A → Bool) → (ℕ → A → Reason) → List A → Reason
first_from n test said [] = no_reason
first_from n test said (x ∷ rest) = cond (test x) (said n x) (first_from (suc n) test said rest)

abbrev pub first : {A : Type 0} → (A → Bool) → (ℕ → A → Reason) → List A → Reason
first test said xs = first_from 1 test said xs

-- ---- what is tested

-- a float is a NaN
abbrev pub is_no_number : Float → Bool
is_no_number x = is_not_a_number (rounded_of x)

-- it is an infinity
abbrev pub is_infinity : Float → Bool
is_infinity x = is_infinite (rounded_of x)

-- it rounds to too many ticks
abbrev pub is_over_limit : Float → Bool
is_over_limit x = is_too_large (rounded_of x)

-- a value of the corrected point is out of its range
abbrev pub is_out : Point → Value → Bool
is_out q v = not (in_range_at q v)

-- it moved from the last estimate by more than its tolerance
abbrev pub is_over : Session → Point → Value → Bool
is_over s q v = not (within_at s.tolerances q (estimate_of s) v)

-- ---- the reason of each number

abbrev pub sample_reasons : List Float → List (ℕ × Reason)
sample_reasons xs =
    (4, first is_no_number named xs)
    ∷ (13, first is_infinity named xs)
    ∷ (5, first is_over_limit named xs)
    ∷ []

-- 0 is *accepted*, where no value is over its tolerance, and *again*, where one is
abbrev pub point_reasons : Session → Point → List (ℕ × Reason)
point_reasons s q =
    (6, first (is_out q) named six)
    ∷ (8, first (is_over s q) (moved s q) six)
    ∷ (0, first (is_over s q) (moved s q) six)
    ∷ []

-- what stands beside a number; a number that has no line, as 7, has no reason
unfoldable pub beside : ℕ → List (ℕ × Reason) → Reason
beside n [] = no_reason
beside n ((m, r) ∷ rest) = cond (eqb n m) r (beside n rest)

-- ---- the same, as the code finds it

-- what is tested of a float where a sample is refused for a fault
abbrev pub has_fault : Fault → Float → Bool
has_fault NotANumber = is_no_number
has_fault Infinite = is_infinity
has_fault TooLarge = is_over_limit

-- one value against its tolerance
abbrev pub compared : ℕ → ℕ → Exact → Exact → Option Reason
compared n tolerance e before = cond (not (within tolerance e before)) (Some (reason n (reported_of (exact_of (moved_by e before))) tolerance)) None
