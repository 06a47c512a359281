-- The lines that are written, each as its pieces of text, one after the other: `flatten` joins them. Definitions only.
use Rattle.std.specs.Prelude.{ℕ, Bool, true, false, ℤ, take}
use mathlib.Core.List.{List, [], ◌∷◌, flatten, map}
use Rattle.std.specs.Float.{binary64}
use Rattle.std.specs.Float.Ieee.{to_bits}
use Rattle.exact.specs.declared.Exact.{Exact}
use Rattle.exact.specs.declared.Reported.{Reported}
use Rattle.axis.specs.declared.Axis.{Axis}
use Rattle.axis.specs.declared.Motion.{Motion}
use Rattle.session.specs.declared.Session.{Session}
use Rattle.session.specs.declared.State.{State}
use Rattle.session.specs.declared.State.TheVariants.{Closed, Settled, Awaiting, Starting}
use Rattle.steps.specs.declared.Answer.{Answer}
use Rattle.steps.specs.declared.ReportedMotion.{ReportedMotion}
use Rattle.steps.specs.declared.ReportedPoint.{ReportedPoint}
use Rattle.epoch_steps.specs.declared.RoundValues.{RoundValues}
use Rattle.reasons.specs.declared.Reason.{Reason}
use Rattle.reasons.specs.declared.Differences.{Differences}
use Rattle.reasons.specs.declared.Explanation.{Explanation}
use Rattle.image.specs.Standing.{image_of}
use Rattle.text.specs.Numbers.{ascii, decimal, signed, numbers, hex}
use Rattle.script.specs.Bytes.{digits_of}

-- ---- words, each after a space

unfoldable pub natural : ℕ → List (List ℕ)
natural n = ascii " " ∷ decimal n ∷ []

unfoldable pub two : ℕ → ℕ → List (List ℕ)
two m n = flatten (natural m) ∷ flatten (natural n) ∷ []

unfoldable pub integer : ℤ → List (List ℕ)
integer z = ascii " " ∷ signed z ∷ []

-- the whole and the part
unfoldable pub exactly : Exact → List (List ℕ)
exactly e = ascii " " ∷ signed e.whole ∷ flatten (natural e.part) ∷ []

-- a value: the bits of its report follow; a NaN, which no report is, would be written as the one pattern of `to_bits`
unfoldable pub value : Reported → List (List ℕ)
value r = flatten (exactly r.exact) ∷ ascii " " ∷ hex (to_bits binary64 r.report) ∷ []

-- ---- an answer: the call's name, the number, the kind, eight values

unfoldable pub motion_values : ReportedMotion → List (List ℕ)
motion_values m = flatten (value m.position) ∷ flatten (value m.velocity) ∷ []

unfoldable pub point_values : ReportedPoint → List (List ℕ)
point_values q = flatten (motion_values q.x) ∷ flatten (motion_values q.y) ∷ flatten (motion_values q.z) ∷ []

unfoldable pub answer_values : Answer → List (List ℕ)
answer_values a =
    flatten (natural a.number)
    ∷ flatten (natural a.kind)
    ∷ flatten (point_values a.point)
    ∷ flatten (motion_values a.change)
    ∷ []

unfoldable pub answer_line : List ℕ → Answer → List (List ℕ)
answer_line call a = call ∷ flatten (answer_values a) ∷ ascii "\n" ∷ []

-- ---- the answer of a round: the call's name, the number, the kind, the change, nine points

unfoldable pub round_values : ℕ → ℕ → ReportedMotion → List (List ℕ)
round_values number kind change = flatten (natural number) ∷ flatten (natural kind) ∷ flatten (motion_values change) ∷ []

unfoldable pub point_text : ReportedPoint → List ℕ
point_text q = flatten (point_values q)

unfoldable pub nine_points : List ReportedPoint → List (List ℕ)
nine_points points = map point_text (take 9 points)

unfoldable pub round_line : List ℕ → RoundValues → List (List ℕ)
round_line call a =
    call
    ∷ flatten (round_values a.number a.kind a.change)
    ∷ flatten (nine_points a.track)
    ∷ ascii "\n"
    ∷ []

-- ---- why a correction is answered as it is: the number, the kind, the reason, the differences

-- the value at fault, its change, the tolerance of its kind
unfoldable pub reason_words : Reason → List (List ℕ)
reason_words r = flatten (natural r.value) ∷ flatten (value r.change) ∷ flatten (natural r.tolerance) ∷ []

unfoldable pub flag_of : Bool → ℕ
flag_of true = 1
flag_of false = 0

-- whether they are given, and one for each axis
unfoldable pub difference_words : Differences → List (List ℕ)
difference_words d =
    flatten (natural (flag_of d.given))
    ∷ flatten (integer d.x)
    ∷ flatten (integer d.y)
    ∷ flatten (integer d.z)
    ∷ []

unfoldable pub why_line : Explanation → List (List ℕ)
why_line e =
    ascii "why"
    ∷ flatten (two e.number e.kind)
    ∷ flatten (reason_words e.reason)
    ∷ flatten (difference_words e.differences)
    ∷ ascii "\n"
    ∷ []

-- ---- saving: the bytes of the session's image; loading: the number

unfoldable pub save_line : Session → List (List ℕ)
save_line s = ascii "save 0 " ∷ digits_of (image_of s) ∷ ascii "\n" ∷ []

unfoldable pub load_line : ℕ → List (List ℕ)
load_line number = ascii "load" ∷ flatten (natural number) ∷ ascii "\n" ∷ []

-- ---- the answer of a run: the number, the points settled, the samples used

unfoldable pub run_line : ℕ → ℕ → ℕ → List (List ℕ)
run_line number points used = ascii "run" ∷ flatten (natural number) ∷ flatten (two points used) ∷ ascii "\n" ∷ []

-- ---- a record: seven naturals, then three axes

unfoldable pub motion_words : Motion → List (List ℕ)
motion_words m = flatten (exactly m.position) ∷ flatten (exactly m.velocity) ∷ []

-- two sums, the held sum, nine samples, the estimate
unfoldable pub axis_words : Axis → List (List ℕ)
axis_words a =
    flatten (exactly a.first)
    ∷ flatten (exactly a.second)
    ∷ flatten (motion_words a.older)
    ∷ numbers (take 9 a.samples)
    ∷ flatten (motion_words a.estimate)
    ∷ []

unfoldable pub number_of : State → ℕ
number_of Closed = 0
number_of Settled = 1
number_of Awaiting = 2
number_of Starting = 3

unfoldable pub settings_words : Session → List (List ℕ)
settings_words s =
    flatten (natural (number_of s.state))
    ∷ flatten (natural s.points)
    ∷ flatten (two s.tolerances.position s.tolerances.velocity)
    ∷ flatten (natural s.limit)
    ∷ []

unfoldable pub axes_words : Session → List (List ℕ)
axes_words s = flatten (axis_words s.x) ∷ flatten (axis_words s.y) ∷ flatten (axis_words s.z) ∷ []

unfoldable pub record_line : Session → List (List ℕ)
record_line s =
    ascii "record"
    ∷ flatten (settings_words s)
    ∷ flatten (two s.accepted s.corrections)
    ∷ flatten (axes_words s)
    ∷ ascii "\n"
    ∷ []

-- ---- a line that is no call

unfoldable pub no_call_line : ℕ → List (List ℕ)
no_call_line number = ascii "line " ∷ decimal number ∷ ascii ": not a call\n" ∷ []
