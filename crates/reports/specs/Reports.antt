-- What `oem read` and `oem mend` print: the names and the points that were read, the changes, and refusals. Definitions only.
use Rattle.std.specs.Prelude.{ℕ, ◌+◌, ◌≤◌, cond, eqb, ℤ, length, take, drop}
use Prim.Native.String.{String}
use mathlib.Core.List.{List, [], ◌∷◌, ◌++◌, flatten, map}
use Rattle.text.specs.Numbers.{ascii, decimal, numbers}
use Rattle.message.specs.declared.Edition.{Edition}
use Rattle.received.specs.declared.Place.{Place}
use Rattle.received.specs.declared.Received.{Received}
use Rattle.received.specs.Versions.{is_other, edition_in}
use Rattle.received.specs.Data.{Point}
use Rattle.received.specs.Reading.{rest_at, Read, Reads, Stops, read_of}
use Rattle.received.specs.Answer.{answer_to, epochs_after, values_after}
use Rattle.received.specs.Mending.{Change, change, Mend, Mends, Cannot, mend_of}

-- ---- names

-- KEYWORD value
unfoldable pub name_line : List ℕ → List ℕ → List (List ℕ)
name_line keyword value = keyword ∷ ascii " " ∷ value ∷ ascii "\n" ∷ []

abbrev pub named : String → List ℕ → List ℕ
named keyword value = flatten (name_line (ascii keyword) value)

-- when and by whom
unfoldable pub sender_lines : List ℕ → List ℕ → List (List ℕ)
sender_lines created originator = named "CREATION_DATE" created ∷ named "ORIGINATOR" originator ∷ []

-- of what
unfoldable pub object_lines : List ℕ → List ℕ → List ℕ → List ℕ → List (List ℕ)
object_lines object id center frame =
    named "OBJECT_NAME" object ∷ named "OBJECT_ID" id ∷ named "CENTER_NAME" center ∷ named "REF_FRAME" frame ∷ []

-- what stands at a place of a text
unfoldable pub part_of : List ℕ → Place → List ℕ
part_of text place = take place.length (drop place.start text)

pub record Within (text : List ℕ) (place : Place) : Type 0 where
  pub ends : place.start + place.length ≤ length text

pub record AllWithin (text : List ℕ) (r : Received) : Type 0 where
  pub created : Within text r.created
  pub originator : Within text r.originator
  pub object : Within text r.object
  pub id : Within text r.id
  pub center : Within text r.center
  pub frame : Within text r.frame

unfoldable pub sender_in : List ℕ → Received → List (List ℕ)
sender_in text r = sender_lines (part_of text r.created) (part_of text r.originator)

unfoldable pub object_in : List ℕ → Received → List (List ℕ)
object_in text r = object_lines (part_of text r.object) (part_of text r.id) (part_of text r.center) (part_of text r.frame)

unfoldable pub names_in : List ℕ → Received → List (List ℕ)
names_in text r = flatten (sender_in text r) ∷ flatten (object_in text r) ∷ []

-- ---- points

-- the epoch, and each value after a space
unfoldable pub point_line : ℕ → List ℤ → List (List ℕ)
point_line seconds values = decimal seconds ∷ numbers values ∷ ascii "\n" ∷ []

unfoldable pub point_text : Point → List ℕ
point_text p = flatten (point_line p.seconds p.values)

unfoldable pub points_text : List Point → List ℕ
points_text points = flatten (map point_text points)

-- the points that two rooms hold: an epoch and six values each
unfoldable pub points_of : List ℕ → List ℤ → List Point
points_of [] values = []
points_of (seconds ∷ epochs) values = record { seconds = seconds; values = take 6 values } ∷ points_of epochs (drop 6 values)

-- ---- changes

-- 1 dropped, 2 START_TIME, 3 STOP_TIME
unfoldable pub what_text : ℕ → List ℕ
what_text what = cond (eqb what 1) (ascii " dropped\n") (cond (eqb what 2) (ascii " START_TIME\n") (ascii " STOP_TIME\n"))

unfoldable pub change_line : ℕ → ℕ → List (List ℕ)
change_line line what = decimal line ∷ what_text what ∷ []

unfoldable pub change_text : Change → List ℕ
change_text c = flatten (change_line c.line c.what)

unfoldable pub changes_text : List Change → List ℕ
changes_text changes = flatten (map change_text changes)

-- the changes that a room holds: two words each
unfoldable pub changes_of : List ℕ → List Change
changes_of [] = []
changes_of (line ∷ []) = []
changes_of (line ∷ what ∷ words) = change line what ∷ changes_of words

-- ---- refusals

unfoldable pub refused_line : ℕ → List (List ℕ)
refused_line number = ascii "refused " ∷ decimal number ∷ ascii "\n" ∷ []

unfoldable pub stopped_line : ℕ → List (List ℕ)
stopped_line line = ascii "refused 15 " ∷ decimal line ∷ ascii "\n" ∷ []

-- ---- what `oem read` prints

-- by what was received: the names and the points, or one line
unfoldable pub report_of : List ℕ → Received → List ℕ → List ℤ → List ℕ
report_of text r epochs values =
    cond (eqb r.number 0) (flatten (names_in text r) ++ points_text (take r.count (points_of epochs values)))
    (cond (eqb r.number 15) (flatten (stopped_line r.line))
    (flatten (refused_line r.number)))

-- for a text, with two rooms for what is read
unfoldable pub report_for : Edition → List ℕ → List ℕ → List ℤ → List ℕ
report_for e text epochs values = report_of text (answer_to e text epochs values) (epochs_after e text epochs values) (values_after e text epochs values)

-- by the definition of what is read alone
unfoldable pub report_by : Read → List ℕ
report_by (Stops line) = flatten (stopped_line line)
report_by (Reads groups points) =
    flatten (sender_lines (rest_at groups 3) (rest_at groups 4))
    ++ (flatten (object_lines (rest_at groups 8) (rest_at groups 9) (rest_at groups 10) (rest_at groups 11))
    ++ points_text points)

-- of an edition: 17 first
unfoldable pub read_as : Edition → List ℕ → List ℕ
read_as e text = cond (is_other e text) (flatten (refused_line 17)) (report_by (read_of e text))

-- of the edition that the version line chooses
unfoldable pub read_text : List ℕ → List ℕ
read_text text = read_as (edition_in text) text

-- ---- what `oem mend` lists

-- by the number that refuses, or 0, and a room: the changes, or one line
unfoldable pub list_of : ℕ → List ℕ → ℕ → List ℕ
list_of number words count = cond (eqb number 0) (changes_text (take count (changes_of words))) (flatten (refused_line number))

-- by the definition of what is mended alone
unfoldable pub list_by : Mend → List ℕ
list_by Cannot = flatten (refused_line 16)
list_by (Mends lines changes) = changes_text changes

unfoldable pub mend_list : Edition → List ℕ → List ℕ
mend_list e text = cond (is_other e text) (flatten (refused_line 17)) (list_by (mend_of e text))
