-- Texts of version 2.0 worked out, character by character: what the reader finds in each, and what mending gives.
use Rattle.std.specs.Prelude.{ℕ, pos, negsuc}
use Prim.Native.String.{String}
use mathlib.Core.List.{List, [], ◌∷◌, ◌++◌, flatten, map}
use Rattle.integers.specs.Lines.{Line, line as row}
use Rattle.text.specs.Numbers.{ascii}
use Rattle.message.specs.declared.Edition.TheVariants.{Two}
use Rattle.received.specs.Data.{Point}
use Rattle.received.specs.Messages.{Message}
use Rattle.received.specs.Reading.{Read, Reads, Stops, read_of, message_in}
use Rattle.received.specs.Mending.{Change, change, Mend, Mends, Cannot, mend_of}

-- ---- lines

abbrev pub lines : List String → List (List ℕ)
lines texts = map ascii texts

-- up to the two times, with comments in the first two places
abbrev up_to : List String → List String → List (List ℕ)
up_to on_message on_object =
    lines ("CCSDS_OEM_VERS = 2.0\n" ∷ on_message)
    ++ (lines ("CREATION_DATE = 0001-01-01T00:00:00\n" ∷ "ORIGINATOR = A\n" ∷ "META_START\n" ∷ on_object)
    ++ lines ("OBJECT_NAME = B C\n" ∷ "OBJECT_ID = D\n" ∷ "CENTER_NAME = E\n" ∷ "REF_FRAME = F\n" ∷ "TIME_SYSTEM = TAI\n" ∷ []))

-- the same with the two times, and the lines behind META_STOP
abbrev with_all : List String → List String → String → String → List (List ℕ) → List (List ℕ)
with_all on_message on_object start stop others = up_to on_message on_object ++ (lines (start ∷ stop ∷ "META_STOP\n" ∷ []) ++ others)

-- without comments: START_TIME is line 10, STOP_TIME line 11, and the data begin at line 13
abbrev pub plain : String → String → List (List ℕ) → List (List ℕ)
plain start stop others = with_all [] [] start stop others

abbrev pub start1 : String
start1 = "START_TIME = 0001-01-01T00:00:01\n"

abbrev start2 : String
start2 = "START_TIME = 0001-01-01T00:00:02\n"

abbrev pub stop1 : String
stop1 = "STOP_TIME = 0001-01-01T00:00:01\n"

abbrev pub stop2 : String
stop2 = "STOP_TIME = 0001-01-01T00:00:02\n"

abbrev pub data1 : String
data1 = "0001-01-01T00:00:01 1.000000 -0.000001 7000.250000 0.000000001 -2.000000000 0.000000000\n"

abbrev data2 : String
data2 = "0001-01-01T00:00:02 0.000000 0.000000 0.000000 0.000000000 0.000000000 0.000000000\n"

-- the second without its newline
abbrev unended : String
unended = "0001-01-01T00:00:02 0.000000 0.000000 0.000000 0.000000000 0.000000000 0.000000000"

-- a data line whose first number has this text
abbrev number : String → List (List ℕ)
number x = (ascii "0001-01-01T00:00:01 " ++ (ascii x ++ ascii " 0.000000 0.000000 0.000000000 0.000000000 0.000000000\n")) ∷ []

abbrev both : List (List ℕ)
both = lines (data1 ∷ data2 ∷ [])

-- ---- reading

abbrev pub point1 : Point
point1 = record { seconds = 1; values = pos 1000000 ∷ negsuc 0 ∷ pos 7000250000 ∷ pos 1 ∷ negsuc 1999999999 ∷ pos 0 ∷ [] }

abbrev point2 : Point
point2 = record { seconds = 2; values = pos 0 ∷ pos 0 ∷ pos 0 ∷ pos 0 ∷ pos 0 ∷ pos 0 ∷ [] }

-- comments in all three places
abbrev commented : List (List ℕ)
commented =
    with_all ("COMMENT\n" ∷ "COMMENT  two\n" ∷ []) ("COMMENT a\n" ∷ []) start1 stop2 (lines ("COMMENT  = ~\n" ∷ data1 ∷ data2 ∷ []))

abbrev groups : List (List (List ℕ))
groups =
    lines ("CCSDS_OEM_VERS = 2.0\n" ∷ [])
    ∷ lines ("COMMENT\n" ∷ "COMMENT  two\n" ∷ [])
    ∷ []
    ∷ lines ("CREATION_DATE = 0001-01-01T00:00:00\n" ∷ [])
    ∷ lines ("ORIGINATOR = A\n" ∷ [])
    ∷ []
    ∷ lines ("META_START\n" ∷ [])
    ∷ lines ("COMMENT a\n" ∷ [])
    ∷ lines ("OBJECT_NAME = B C\n" ∷ [])
    ∷ lines ("OBJECT_ID = D\n" ∷ [])
    ∷ lines ("CENTER_NAME = E\n" ∷ [])
    ∷ lines ("REF_FRAME = F\n" ∷ [])
    ∷ lines ("TIME_SYSTEM = TAI\n" ∷ [])
    ∷ lines (start1 ∷ [])
    ∷ lines (stop2 ∷ [])
    ∷ lines ("META_STOP\n" ∷ [])
    ∷ lines ("COMMENT  = ~\n" ∷ [])
    ∷ []

abbrev found : Message
found =
    record {
      on_message = [] ∷ ascii "  two" ∷ [];
      classification = [];
      created = ascii "0001-01-01T00:00:00";
      originator = ascii "A";
      identifier = [];
      on_object = ascii " a" ∷ [];
      object = ascii "B C";
      id = ascii "D";
      center = ascii "E";
      frame = ascii "F";
      on_data = ascii "  = ~" ∷ [];
      points = point1 ∷ point2 ∷ [];
    }

abbrev pub messages : List Line
messages = row Message (message_in groups (point1 ∷ point2 ∷ [])) found ∷ []

abbrev stops : List (List ℕ) → ℕ → Line
stops text n = row Read (read_of Two (flatten text)) (Stops n)

abbrev pub readings : List Line
readings =
    row Read (read_of Two (flatten commented)) (Reads groups (point1 ∷ point2 ∷ []))
    -- nothing, another version, ORIGINATOR lost, an end before START_TIME, no data line
    ∷ stops [] 1
    ∷ stops (lines ("CCSDS_OEM_VERS = 3.0\n" ∷ [])) 1
    ∷ stops (lines ("CCSDS_OEM_VERS = 2.0\n" ∷ "CREATION_DATE = 0001-01-01T00:00:00\n" ∷ "META_START\n" ∷ [])) 3
    ∷ stops (up_to [] []) 10
    ∷ stops (plain start1 stop1 []) 13
    -- a comment behind CREATION_DATE, a word that is no comment, a comment and a blank line between data lines, a last line without its newline
    ∷ stops (lines ("CCSDS_OEM_VERS = 2.0\n" ∷ "CREATION_DATE = 0001-01-01T00:00:00\n" ∷ "COMMENT\n" ∷ [])) 3
    ∷ stops (lines ("CCSDS_OEM_VERS = 2.0\n" ∷ "COMMENTS\n" ∷ [])) 2
    ∷ stops (plain start1 stop2 (lines (data1 ∷ "COMMENT\n" ∷ data2 ∷ []))) 14
    ∷ stops (plain start1 stop2 (lines (data1 ∷ "\n" ∷ data2 ∷ []))) 14
    ∷ stops (plain start1 stop2 (lines (data1 ∷ unended ∷ []))) 14
    -- equal epochs, and numbers: a zero with a sign, a spare zero, a plus sign, five decimals, 17 digits
    ∷ stops (plain start1 stop1 (lines (data1 ∷ data1 ∷ []))) 14
    ∷ stops (plain start1 stop1 (number "-0.000000")) 13
    ∷ stops (plain start1 stop1 (number "01.000000")) 13
    ∷ stops (plain start1 stop1 (number "+1.000000")) 13
    ∷ stops (plain start1 stop1 (number "1.00000")) 13
    ∷ stops (plain start1 stop1 (number "10000000000.000000")) 13
    -- START_TIME wrong, no time at all, STOP_TIME wrong, both wrong, and both with a data line that cannot be read
    ∷ stops (plain start2 stop2 both) 10
    ∷ stops (plain "START_TIME = noon\n" stop2 both) 10
    ∷ stops (plain start1 stop1 both) 11
    ∷ stops (plain start2 stop1 both) 10
    ∷ stops (plain start2 stop1 (lines (data1 ∷ unended ∷ []))) 14
    ∷ []

-- ---- mending

abbrev dropped : ℕ → Change
dropped n = change n 1

abbrev mends : List (List ℕ) → List (List ℕ) → List Change → Line
mends text out changes = row Mend (mend_of Two (flatten text)) (Mends out changes)

abbrev cannot : List (List ℕ) → Line
cannot text = row Mend (mend_of Two (flatten text)) Cannot

abbrev pub mendings : List Line
mendings =
    -- a readable text
    mends commented commented []
    -- a line that cannot be read, a comment between data lines, and comments behind such a line
    ∷ mends (plain start1 stop2 (lines (data1 ∷ "0001-01-01T00:00:02 0.0\n" ∷ data2 ∷ []))) (plain start1 stop2 both) (dropped 14 ∷ [])
    ∷ mends (plain start1 stop2 (lines (data1 ∷ "COMMENT\n" ∷ data2 ∷ []))) (plain start1 stop2 both) (dropped 14 ∷ [])
    ∷ mends (plain start1 stop2 (lines ("\n" ∷ "COMMENT\n" ∷ data1 ∷ data2 ∷ []))) (plain start1 stop2 both) (dropped 13 ∷ dropped 14 ∷ [])
    -- both times wrong
    ∷ mends (plain start2 stop1 both) (plain start1 stop2 both) (change 10 2 ∷ change 11 3 ∷ [])
    -- an epoch that is not later, and a last line without its newline: the last epoch is then another
    ∷ mends (plain start1 stop2 (lines (data1 ∷ data1 ∷ []))) (plain start1 stop1 (lines (data1 ∷ []))) (change 11 3 ∷ dropped 14 ∷ [])
    ∷ mends (plain start1 stop2 (lines (data1 ∷ unended ∷ []))) (plain start1 stop1 (lines (data1 ∷ []))) (change 11 3 ∷ dropped 14 ∷ [])
    -- no data line is left, none was there, and a line of the head is lost
    ∷ cannot (plain start1 stop2 (lines ("COMMENT\n" ∷ unended ∷ [])))
    ∷ cannot (plain start1 stop2 [])
    ∷ cannot (lines ("CREATION_DATE = 0001-01-01T00:00:00\n" ∷ []))
    ∷ []
