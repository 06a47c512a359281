-- Texts of version 3.0 and of other versions worked out, character by character: which edition reads each, what it finds, and what mending gives.
use Rattle.std.specs.Prelude.{ℕ, Bool, true, false, replicate}
use Prim.Native.String.{String}
use mathlib.Core.List.{List, [], ◌∷◌, ◌++◌, flatten}
use Rattle.integers.specs.Lines.{Line, line as row}
use Rattle.text.specs.Numbers.{ascii}
use Rattle.message.specs.declared.Edition.{Edition}
use Rattle.message.specs.declared.Edition.TheVariants.{Two, Three}
use Rattle.received.specs.Profile.{text_behind}
use Rattle.received.specs.Versions.{edition_in}
use Rattle.received.specs.Messages.{Message}
use Rattle.received.specs.Reading.{Read, Reads, Stops, read_of, message_in}
use Rattle.received.specs.Answer.{answer_to}
use Rattle.received.specs.Mending.{Mend, Mends, Cannot, change, mend_of}
use Rattle.received.specs.MendAnswer.{mended_to}
use Rattle.readable.specs.Figures.{lines, plain, start1, stop1, stop2, data1, point1}

-- ---- lines

-- with lines behind the version, behind CREATION_DATE and behind ORIGINATOR, and with a time of the end; one data line
abbrev newer : List String → List String → List String → String → List (List ℕ)
newer first second third stop =
    lines ("CCSDS_OEM_VERS = 3.0\n" ∷ first)
    ++ (lines ("CREATION_DATE = 0001-01-01T00:00:00\n" ∷ second)
    ++ (lines ("ORIGINATOR = A\n" ∷ third)
    ++ (lines ("META_START\n" ∷ "OBJECT_NAME = B C\n" ∷ "OBJECT_ID = D\n" ∷ "CENTER_NAME = E\n" ∷ "REF_FRAME = F\n" ∷ "TIME_SYSTEM = TAI\n" ∷ [])
    ++ lines (start1 ∷ stop ∷ "META_STOP\n" ∷ data1 ∷ []))))

abbrev secret : String
secret = "CLASSIFICATION = For Official use\n"

abbrev named : String
named = "MESSAGE_ID = 2026/11 b\n"

-- its groups
abbrev new_groups : List String → List String → List String → List (List (List ℕ))
new_groups comments classification identifier =
    lines ("CCSDS_OEM_VERS = 3.0\n" ∷ [])
    ∷ lines comments
    ∷ lines classification
    ∷ lines ("CREATION_DATE = 0001-01-01T00:00:00\n" ∷ [])
    ∷ lines ("ORIGINATOR = A\n" ∷ [])
    ∷ lines identifier
    ∷ lines ("META_START\n" ∷ [])
    ∷ []
    ∷ lines ("OBJECT_NAME = B C\n" ∷ [])
    ∷ lines ("OBJECT_ID = D\n" ∷ [])
    ∷ lines ("CENTER_NAME = E\n" ∷ [])
    ∷ lines ("REF_FRAME = F\n" ∷ [])
    ∷ lines ("TIME_SYSTEM = TAI\n" ∷ [])
    ∷ lines (start1 ∷ [])
    ∷ lines (stop1 ∷ [])
    ∷ lines ("META_STOP\n" ∷ [])
    ∷ []
    ∷ []

-- ---- which edition reads a text: 17 for another version, and 15 or 16 where the text names none or is nothing but a version

abbrev seventeen : Edition → List (List ℕ) → List Line
seventeen e text = row ℕ (answer_to e (flatten text) [] []).number 17 ∷ row ℕ (mended_to e (flatten text) [] []).number 17 ∷ []

-- by the version line
abbrev neither : String → List Line
neither text = seventeen (edition_in (ascii text)) (lines (text ∷ []))

abbrev unreadable : String → List Line
unreadable text =
    row ℕ (answer_to (edition_in (ascii text)) (ascii text) [] []).number 15
    ∷ row ℕ (answer_to (edition_in (ascii text)) (ascii text) [] []).line 1
    ∷ row ℕ (mended_to (edition_in (ascii text)) (ascii text) [] []).number 16
    ∷ []

abbrev pub versions : List Line
versions =
    row Edition (edition_in (flatten (newer [] [] [] stop1))) Three
    ∷ row Edition (edition_in (flatten (plain start1 stop1 (lines (data1 ∷ []))))) Two
    ∷ flatten (
    -- each of the two by the other's reader
    seventeen Two (newer [] [] [] stop1)
    ∷ seventeen Three (plain start1 stop1 (lines (data1 ∷ [])))
    -- neither, with and without a newline
    ∷ neither "CCSDS_OEM_VERS = 4.0\nCREATION_DATE = 0001-01-01T00:00:00\n"
    ∷ neither "CCSDS_OEM_VERS = 1.0"
    ∷ neither "CCSDS_OEM_VERS = 3.0 \n"
    ∷ neither "CCSDS_OEM_VERS =  3.0\n"
    ∷ neither "CCSDS_OEM_VERS = 2.00\n"
    ∷ neither "CCSDS_OEM_VERS = \n"
    ∷ neither "CCSDS_OEM_VERS = "
    -- no version, and no newline behind one
    ∷ unreadable ""
    ∷ unreadable "CCSDS_OEM_VERS=4.0\n"
    ∷ unreadable "ccsds_oem_vers = 4.0\n"
    ∷ unreadable "CREATION_DATE = 0001-01-01T00:00:00\n"
    ∷ unreadable "CCSDS_OEM_VERS = 3.0"
    ∷ unreadable "CCSDS_OEM_VERS = 2.0"
    ∷ []
    )

-- ---- the further values: lines of 254 characters and of 255, a tab, and a byte past the printable ones

abbrev pub values : List Line
values =
    row Bool (text_behind "CLASSIFICATION" (replicate 237 65)) true
    ∷ row Bool (text_behind "CLASSIFICATION" (replicate 238 65)) false
    ∷ row Bool (text_behind "MESSAGE_ID" (replicate 241 97)) true
    ∷ row Bool (text_behind "MESSAGE_ID" (replicate 242 97)) false
    ∷ row Bool (text_behind "MESSAGE_ID" (65 ∷ 9 ∷ 65 ∷ [])) false
    ∷ row Bool (text_behind "MESSAGE_ID" (127 ∷ [])) false
    ∷ row Bool (text_behind "MESSAGE_ID" (126 ∷ [])) true
    ∷ []

-- ---- reading

abbrev taken : List String → List String → List String → Line
taken comments classification identifier =
    row Read (read_of Three (flatten (newer (comments ++ classification) [] identifier stop1))) (Reads (new_groups comments classification identifier) (point1 ∷ []))

abbrev stops : List String → List String → List String → ℕ → Line
stops first second third n = row Read (read_of Three (flatten (newer first second third stop1))) (Stops n)

abbrev older : List String → ℕ → Line
older texts n = row Read (read_of Two (flatten (lines ("CCSDS_OEM_VERS = 2.0\n" ∷ texts)))) (Stops n)

abbrev pub new_readings : List Line
new_readings =
    -- both, neither, and one of the two
    taken ("COMMENT\n" ∷ "COMMENT two\n" ∷ []) (secret ∷ []) (named ∷ [])
    ∷ taken [] [] []
    ∷ taken ("COMMENT\n" ∷ []) (secret ∷ []) []
    ∷ taken [] [] (named ∷ [])
    -- twice, behind its place, before it, and a comment behind it
    ∷ stops (secret ∷ secret ∷ []) [] [] 3
    ∷ stops [] (secret ∷ []) [] 3
    ∷ stops [] [] (secret ∷ []) 4
    ∷ stops (secret ∷ "COMMENT\n" ∷ []) [] [] 3
    ∷ stops [] [] (named ∷ named ∷ []) 5
    ∷ stops (named ∷ []) [] [] 2
    ∷ stops [] (named ∷ []) [] 3
    ∷ stops [] [] (named ∷ "COMMENT\n" ∷ []) 5
    -- no value, a blank at either end, and no blanks around the sign
    ∷ stops ("CLASSIFICATION = \n" ∷ []) [] [] 2
    ∷ stops ("CLASSIFICATION =  A\n" ∷ []) [] [] 2
    ∷ stops ("CLASSIFICATION = A \n" ∷ []) [] [] 2
    ∷ stops [] [] ("MESSAGE_ID=A\n" ∷ []) 4
    -- neither stands in a message of version 2.0
    ∷ older (secret ∷ []) 2
    ∷ older ("CREATION_DATE = 0001-01-01T00:00:00\n" ∷ "ORIGINATOR = A\n" ∷ named ∷ []) 4
    ∷ []

-- what such a message says
abbrev new_found : Message
new_found =
    record {
      on_message = [] ∷ [];
      classification = ascii "For Official use" ∷ [];
      created = ascii "0001-01-01T00:00:00";
      originator = ascii "A";
      identifier = ascii "2026/11 b" ∷ [];
      on_object = [];
      object = ascii "B C";
      id = ascii "D";
      center = ascii "E";
      frame = ascii "F";
      on_data = [];
      points = point1 ∷ [];
    }

abbrev pub new_messages : List Line
new_messages = row Message (message_in (new_groups ("COMMENT\n" ∷ []) (secret ∷ []) (named ∷ [])) (point1 ∷ [])) new_found ∷ []

-- ---- mending

abbrev pub new_mendings : List Line
new_mendings =
    -- a readable text, and a wrong time behind both further keywords
    row Mend (mend_of Three (flatten (newer (secret ∷ []) [] (named ∷ []) stop1))) (Mends (newer (secret ∷ []) [] (named ∷ []) stop1) [])
    ∷ row Mend (mend_of Three (flatten (newer (secret ∷ []) [] (named ∷ []) stop2))) (Mends (newer (secret ∷ []) [] (named ∷ []) stop1) (change 13 3 ∷ []))
    -- a further keyword at another place, and one in a message of version 2.0
    ∷ row Mend (mend_of Three (flatten (newer [] (secret ∷ []) [] stop1))) Cannot
    ∷ row Mend (mend_of Two (flatten (lines ("CCSDS_OEM_VERS = 2.0\n" ∷ secret ∷ [])))) Cannot
    ∷ []
