-- How long the lines are at most, whatever they say. A natural has at most 20 digits, a whole one character more, a float 16.
use Prim.Native.Nat.{ℕ, zero, suc, ◌+◌, ◌*◌, ◌/◌, ◌%◌, ◌≤◌}
use mathlib.Core.Path.{◌≡◌, refl}
use mathlib.Core.Bool.{Bool, true, false}
use mathlib.Core.List.{List, [], ◌∷◌, ◌++◌, flatten, map}
use native.Mathlib.Omega.{arith}
use lib.Dec.{ltb}
use lib.Ieee.{binary64, to_bits}
use lib.IntN.{ℤ, pos, negsuc}
use lib.ListN.{length, take, length-append}
use Rattle.exact.specs.declared.Exact.{Exact}
use Rattle.exact.specs.declared.Reported.{Reported}
use Rattle.axis.specs.declared.Axis.{Axis}
use Rattle.axis.specs.declared.Motion.{Motion}
use Rattle.session.specs.declared.Session.{Session}
use Rattle.steps.specs.declared.Answer.{Answer}
use Rattle.steps.specs.declared.ReportedMotion.{ReportedMotion}
use Rattle.steps.specs.declared.ReportedPoint.{ReportedPoint}
use Rattle.epoch_steps.specs.declared.RoundValues.{RoundValues}
use Rattle.reasons.specs.declared.Reason.{Reason}
use Rattle.reasons.specs.declared.Differences.{Differences}
use Rattle.reasons.specs.declared.Explanation.{Explanation}
use Rattle.image.specs.Standing.{standing, image_of}
use Rattle.image.proofs.Lengths.{length-record_bytes}
use Rattle.text.specs.Numbers.{ascii, digit, digits, decimal, signed, numbers, hex}
use Rattle.text.proofs.Digits.{length-hex_digits}
use Rattle.text.specs.Places.{total}
use Rattle.text.proofs.Pieces.{length-flatten}
use Rattle.script.specs.Lines.{natural, two, integer, exactly, value, motion_values, point_values, answer_values, answer_line}
use Rattle.script.specs.Lines.{round_values, point_text, nine_points, round_line}
use Rattle.script.specs.Lines.{reason_words, flag_of, difference_words, why_line}
use Rattle.script.specs.Bytes.{byte_digits, digits_of}
use Rattle.script.specs.Lines.{save_line, load_line, run_line}
use Rattle.script.specs.Lines.{motion_words, axis_words, number_of, settings_words, axes_words, record_line, no_call_line}

-- ---- words

few-digits : (k n : ℕ) → length (digits k n) ≤ k
unfolding digits
few-digits zero n = omega arith
few-digits (suc k) n = by (ltb n 10) (few-digits k (n / 10))
  where
    by : (b : Bool) → length (digits k (n / 10)) ≤ k → length (elim b as (λ _. List ℕ) [ true ↦ [] | false ↦ digits k (n / 10) ] ++ (digit (n % 10) ∷ [])) ≤ suc k
    by true ih = omega arith
    by false ih = omega (arith, length-append (digits k (n / 10)) (digit (n % 10) ∷ []))

pub decimal-short : (n : ℕ) → length (decimal n) ≤ 20
unfolding decimal
decimal-short n = few-digits 20 n

signed-short : (z : ℤ) → length (signed z) ≤ 21
unfolding signed ascii
signed-short (pos n) = omega (arith, decimal-short n)
signed-short (negsuc n) = omega (arith, decimal-short (suc n))

integer-short : (z : ℤ) → length (flatten (integer z)) ≤ 22
unfolding integer ascii
integer-short z = omega (arith, length-flatten (integer z), signed-short z)

pub length-hex : (n : ℕ) → length (hex n) ≡ 16
unfolding hex
length-hex n = length-hex_digits 16 n

numbers-short : (k : ℕ) (zs : List ℤ) → length (numbers (take k zs)) ≤ 22 * k
unfolding numbers ascii
numbers-short zero zs = omega arith
numbers-short (suc k) [] = omega arith
numbers-short (suc k) (z ∷ zs) = omega (arith, length-append (signed z) (numbers (take k zs)), signed-short z, numbers-short k zs)

natural-short : (n : ℕ) → length (flatten (natural n)) ≤ 21
unfolding natural ascii
natural-short n = omega (arith, length-flatten (natural n), decimal-short n)

two-short : (m n : ℕ) → length (flatten (two m n)) ≤ 42
unfolding two
two-short m n = omega (arith, length-flatten (two m n), natural-short m, natural-short n)

exactly-short : (e : Exact) → length (flatten (exactly e)) ≤ 43
unfolding exactly ascii
exactly-short e = omega (arith, length-flatten (exactly e), signed-short e.whole, natural-short e.part)

value-short : (r : Reported) → length (flatten (value r)) ≤ 60
unfolding value ascii
value-short r = omega (arith, length-flatten (value r), exactly-short r.exact, length-hex (to_bits binary64 r.report))

-- ---- an answer

motion-short : (m : ReportedMotion) → length (flatten (motion_values m)) ≤ 120
unfolding motion_values
motion-short m = omega (arith, length-flatten (motion_values m), value-short m.position, value-short m.velocity)

point-short : (q : ReportedPoint) → length (flatten (point_values q)) ≤ 360
unfolding point_values
point-short q = omega (arith, length-flatten (point_values q), motion-short q.x, motion-short q.y, motion-short q.z)

answer-values-short : (a : Answer) → length (flatten (answer_values a)) ≤ 522
unfolding answer_values
answer-values-short a =
    omega (arith, length-flatten (answer_values a), natural-short a.number, natural-short a.kind, point-short a.point, motion-short a.change)

pub answer-short : (call : List ℕ) (a : Answer) → total (answer_line call a) ≤ length call + 523
unfolding answer_line ascii
answer-short call a = omega (arith, answer-values-short a)

-- ---- the answer of a round

round-values-short : (n k : ℕ) (m : ReportedMotion) → length (flatten (round_values n k m)) ≤ 162
unfolding round_values
round-values-short n k m = omega (arith, length-flatten (round_values n k m), natural-short n, natural-short k, motion-short m)

points-short : (k : ℕ) (qs : List ReportedPoint) → total (map point_text (take k qs)) ≤ 360 * k
unfolding point_text
points-short zero qs = omega arith
points-short (suc k) [] = omega arith
points-short (suc k) (q ∷ qs) = omega (arith, point-short q, points-short k qs)

nine-short : (qs : List ReportedPoint) → length (flatten (nine_points qs)) ≤ 3240
unfolding nine_points
nine-short qs = omega (arith, length-flatten (nine_points qs), points-short 9 qs)

pub round-short : (call : List ℕ) (a : RoundValues) → total (round_line call a) ≤ length call + 3403
unfolding round_line ascii
round-short call a = omega (arith, round-values-short a.number a.kind a.change, nine-short a.track)

-- ---- why a correction is answered as it is

reason-short : (r : Reason) → length (flatten (reason_words r)) ≤ 102
unfolding reason_words
reason-short r = omega (arith, length-flatten (reason_words r), natural-short r.value, value-short r.change, natural-short r.tolerance)

differences-short : (d : Differences) → length (flatten (difference_words d)) ≤ 87
unfolding difference_words
differences-short d =
    omega (arith, length-flatten (difference_words d), natural-short (flag_of d.given), integer-short d.x, integer-short d.y, integer-short d.z)

pub why-short : (e : Explanation) → total (why_line e) ≤ 235
unfolding why_line ascii
why-short e = omega (arith, two-short e.number e.kind, reason-short e.reason, differences-short e.differences)

-- ---- saving and loading

digits_long : (bytes : List ℕ) → length (flatten (map byte_digits bytes)) ≡ 2 * length bytes
unfolding flatten
digits_long [] = refl
digits_long (b ∷ bytes) = omega (arith, length-append (byte_digits b) (flatten (map byte_digits bytes)), length-hex_digits 2 b, digits_long bytes)

pub save-short : (s : Session) → total (save_line s) ≤ 1320
unfolding save_line ascii digits_of image_of
save-short s = omega (arith, digits_long (image_of s), length-record_bytes (standing s))

pub load-short : (n : ℕ) → total (load_line n) ≤ 26
unfolding load_line ascii
load-short n = omega (arith, natural-short n)

-- ---- a run

pub run_short : (number points used : ℕ) → total (run_line number points used) ≤ 67
unfolding run_line ascii
run_short number points used = omega (arith, natural-short number, two-short points used)

-- ---- a record

motion-words-short : (m : Motion) → length (flatten (motion_words m)) ≤ 86
unfolding motion_words
motion-words-short m = omega (arith, length-flatten (motion_words m), exactly-short m.position, exactly-short m.velocity)

axis-short : (a : Axis) → length (flatten (axis_words a)) ≤ 456
unfolding axis_words
axis-short a =
    omega (
      arith,
      length-flatten (axis_words a),
      exactly-short a.first,
      exactly-short a.second,
      motion-words-short a.older,
      numbers-short 9 a.samples,
      motion-words-short a.estimate,
    )

axes-short : (s : Session) → length (flatten (axes_words s)) ≤ 1368
unfolding axes_words
axes-short s = omega (arith, length-flatten (axes_words s), axis-short s.x, axis-short s.y, axis-short s.z)

settings-short : (s : Session) → length (flatten (settings_words s)) ≤ 105
unfolding settings_words
settings-short s =
    let t = s.tolerances in
    omega (arith, length-flatten (settings_words s), natural-short (number_of s.state), natural-short s.points, two-short t.position t.velocity, natural-short s.limit)

pub record-short : (s : Session) → total (record_line s) ≤ 1522
unfolding record_line ascii
record-short s = omega (arith, settings-short s, two-short s.accepted s.corrections, axes-short s)

-- ---- a line that is no call

pub no-call-short : (n : ℕ) → total (no_call_line n) ≤ 38
unfolding no_call_line ascii
no-call-short n = omega (arith, decimal-short n)
