-- How long the texts are at most: a number has at most 20 digits, and a signed one a character more.
use Rattle.std.specs.Prelude.{◌≡◌, Bool, cond, ℕ, zero, suc, ◌+◌, ◌*◌, ◌/◌, ◌%◌, ◌≤◌, ltb, eqb, ℤ, pos, negsuc, take, drop}
use Rattle.std.proofs.Math.Bool.{true, false}
use mathlib.Core.List.{List, [], ◌∷◌, ◌++◌, flatten}
use native.Mathlib.Omega.{arith}
use Rattle.std.proofs.Math.ListN.{length, length-append}
use Rattle.text.specs.Numbers.{ascii, digit, digits, decimal, signed, numbers}
use Rattle.text.proofs.Pieces.{length-flatten}
use Rattle.received.specs.declared.Place.{Place}
use Rattle.received.specs.declared.Received.{Received}
use Rattle.received.specs.Mending.{Change}
use Rattle.reports.specs.Reports.{name_line, sender_lines, object_lines, part_of, sender_in, object_in, names_in}
use Rattle.reports.specs.Reports.{point_line, point_text, points_text, points_of}
use Rattle.reports.specs.Reports.{what_text, change_line, change_text, changes_text, changes_of, refused_line, stopped_line, report_of, list_of}

-- ---- numbers

few-digits : (k n : ℕ) → length (digits k n) ≤ k
unfolding digits
few-digits zero n = omega arith
few-digits (suc k) n = by (ltb n 10) (few-digits k (n / 10))
  where
    by : (b : Bool) → length (digits k (n / 10)) ≤ k → length (elim b as (λ _. List ℕ) [ true ↦ [] | false ↦ digits k (n / 10) ] ++ (digit (n % 10) ∷ [])) ≤ suc k
    by true ih = omega arith
    by false ih = omega (arith, length-append (digits k (n / 10)) (digit (n % 10) ∷ []))

decimal-short : (n : ℕ) → length (decimal n) ≤ 20
unfolding decimal
decimal-short n = few-digits 20 n

signed-short : (z : ℤ) → length (signed z) ≤ 21
unfolding signed ascii
signed-short (pos n) = omega (arith, decimal-short n)
signed-short (negsuc n) = omega (arith, decimal-short (suc n))

numbers-short : (k : ℕ) (zs : List ℤ) → length (numbers (take k zs)) ≤ 22 * k
unfolding numbers ascii
numbers-short zero zs = omega arith
numbers-short (suc k) [] = omega arith
numbers-short (suc k) (z ∷ zs) = omega (arith, length-append (signed z) (numbers (take k zs)), signed-short z, numbers-short k zs)

-- ---- points: an epoch, six values and a newline

point-short : (seconds : ℕ) (values : List ℤ) → length (flatten (point_line seconds (take 6 values))) ≤ 153
unfolding point_line ascii
point-short seconds values = omega (arith, length-flatten (point_line seconds (take 6 values)), decimal-short seconds, numbers-short 6 values)

pub points-short : (k : ℕ) (epochs : List ℕ) (values : List ℤ) → length (points_text (take k (points_of epochs values))) ≤ 153 * k
unfolding points_text points_of point_text flatten
points-short zero epochs values = omega arith
points-short (suc k) [] values = omega arith
points-short (suc k) (e ∷ epochs) values =
    omega (
      arith,
      length-append (flatten (point_line e (take 6 values))) (points_text (take k (points_of epochs (drop 6 values)))),
      point-short e values,
      points-short k epochs (drop 6 values),
    )

-- ---- changes

what-by : (s t : Bool) → length (cond s (ascii " dropped\n") (cond t (ascii " START_TIME\n") (ascii " STOP_TIME\n"))) ≤ 12
unfolding ascii
what-by true t = omega arith
what-by false true = omega arith
what-by false false = omega arith

what-short : (what : ℕ) → length (what_text what) ≤ 12
unfolding what_text
what-short what = what-by (eqb what 1) (eqb what 2)

change-short : (c : Change) → length (change_text c) ≤ 32
unfolding change_text change_line
change-short c = omega (arith, length-flatten (change_line c.line c.what), decimal-short c.line, what-short c.what)

pub changes-short : (k : ℕ) (changes : List Change) → length (changes_text (take k changes)) ≤ 32 * k
unfolding changes_text flatten
changes-short zero changes = omega arith
changes-short (suc k) [] = omega arith
changes-short (suc k) (c ∷ changes) = omega (arith, length-append (change_text c) (changes_text (take k changes)), change-short c, changes-short k changes)

-- ---- refusals

pub refused-short : (number : ℕ) → length (flatten (refused_line number)) ≤ 29
unfolding refused_line ascii
refused-short number = omega (arith, length-flatten (refused_line number), decimal-short number)

stopped-short : (line : ℕ) → length (flatten (stopped_line line)) ≤ 32
unfolding stopped_line ascii
stopped-short line = omega (arith, length-flatten (stopped_line line), decimal-short line)

pub list-short : (number : ℕ) (words : List ℕ) (count : ℕ) → length (list_of number words count) ≤ 32 + 32 * count
unfolding list_of
list-short number words count = by (eqb number 0)
  where
    by : (t : Bool) → length (cond t (changes_text (take count (changes_of words))) (flatten (refused_line number))) ≤ 32 + 32 * count
    by true = omega (arith, changes-short count (changes_of words))
    by false = omega (arith, refused-short number)

-- ---- names of at most 254 characters

short-take : (n : ℕ) (s : List ℕ) → length (take n s) ≤ n
short-take zero s = omega arith
short-take (suc n) [] = omega arith
short-take (suc n) (b ∷ s) = omega (arith, short-take n s)

part-short : (text : List ℕ) (place : Place) → length (part_of text place) ≤ place.length
unfolding part_of
part-short text place = short-take place.length (drop place.start text)

name-long : (keyword value : List ℕ) → length (flatten (name_line keyword value)) ≡ length keyword + length value + 2
unfolding name_line ascii
name-long keyword value = omega (arith, length-flatten (name_line keyword value))

pub record AllShort (r : Received) : Type 0 where
  pub created : r.created.length ≤ 254
  pub originator : r.originator.length ≤ 254
  pub object : r.object.length ≤ 254
  pub id : r.id.length ≤ 254
  pub center : r.center.length ≤ 254
  pub frame : r.frame.length ≤ 254

module _ (text : List ℕ) (r : Received) (short : AllShort r) where
  sender-short : length (flatten (sender_in text r)) ≤ 535
  unfolding sender_in sender_lines ascii
  sender-short =
      omega (
        arith,
        length-flatten (sender_in text r),
        name-long (ascii "CREATION_DATE") (part_of text r.created),
        name-long (ascii "ORIGINATOR") (part_of text r.originator),
        part-short text r.created,
        part-short text r.originator,
        short.created,
        short.originator,
      )

  object-short : length (flatten (object_in text r)) ≤ 1064
  unfolding object_in object_lines ascii
  object-short =
      omega (
        arith,
        length-flatten (object_in text r),
        name-long (ascii "OBJECT_NAME") (part_of text r.object),
        name-long (ascii "OBJECT_ID") (part_of text r.id),
        name-long (ascii "CENTER_NAME") (part_of text r.center),
        name-long (ascii "REF_FRAME") (part_of text r.frame),
        part-short text r.object,
        part-short text r.id,
        part-short text r.center,
        part-short text r.frame,
        short.object,
        short.id,
        short.center,
        short.frame,
      )

  names-short : length (flatten (names_in text r)) ≤ 1599
  unfolding names_in
  names-short = omega (arith, length-flatten (names_in text r), sender-short, object-short)

  -- the whole report
  pub report-short : (epochs : List ℕ) (values : List ℤ) → length (report_of text r epochs values) ≤ 1599 + 153 * r.count
  unfolding report_of
  report-short epochs values = by (eqb r.number 0) (eqb r.number 15)
    where
      by : (s t : Bool)
          → length (cond s (flatten (names_in text r) ++ points_text (take r.count (points_of epochs values)))
          (cond t (flatten (stopped_line r.line))
          (flatten (refused_line r.number)))) ≤ 1599 + 153 * r.count
      by true t =
          let l = length-append (flatten (names_in text r)) (points_text (take r.count (points_of epochs values))) in
          omega (arith, l, names-short, points-short r.count epochs values)
      by false true = omega (arith, stopped-short r.line)
      by false false = omega (arith, refused-short r.number)
