-- The slots of a message of an edition, in the standard's order: the lines that C-14 writes before the data, where comments may stand,
-- and the further keywords of version 3.0. Definitions only.
use Rattle.std.specs.Prelude.{ℕ, ◌+◌, ◌-◌, Bool, true, false, not, ◌||◌, List, [], ◌∷◌, ◌++◌, leb, eqb, length, get_or}
use Prim.Native.String.{String}
use Rattle.integers.specs.Tests.{◌and◌}
use Rattle.text.specs.Numbers.{ascii}
use Rattle.calendar.specs.Text.{same_text}
use Rattle.message.specs.declared.Edition.{Edition}
use Rattle.message.specs.declared.Edition.TheVariants.{Two, Three}
use Rattle.message.specs.Editions.{version_of}
use Rattle.message.specs.Form.{all_between, fits}
use Rattle.message.specs.Refusals.{is_time}
use Rattle.received.specs.Slots.{Form, Slot, one, perhaps, any}

abbrev pub form : List ℕ → (List ℕ → Bool) → Form
form front test = record { front = front; test = test }

-- KEYWORD = value
abbrev pub saying : String → (List ℕ → Bool) → Form
saying keyword test = form (ascii keyword ++ ascii " = ") test

-- a word by itself
abbrev pub alone : String → Form
alone word = form (ascii word) (λ rest. same_text rest [])

-- printable characters, in a line of at most 254 behind a front of so many
unfoldable pub printable : ℕ → List ℕ → Bool
printable front rest = leb (front + length rest) 254 and all_between 32 126 rest

-- COMMENT, and a blank and anything printable or nothing at all
unfoldable pub is_remark : List ℕ → Bool
is_remark rest = (eqb (length rest) 0 || eqb (get_or rest 0 0) 32) and printable 7 rest

abbrev pub comment_form : Form
comment_form = form (ascii "COMMENT") is_remark

-- a value that may be any: the two times are compared when everything else was read
abbrev pub any_value : String → List ℕ → Bool
any_value keyword = printable (length (ascii keyword) + 3)

-- a value that is free text: some printable characters of any case, with no blank at either end
unfoldable pub is_text : ℕ → List ℕ → Bool
is_text front value =
    leb 1 (length value) and printable front value and not (eqb (get_or value 0 0) 32) and not (eqb (get_or value (length value - 1) 0) 32)

abbrev pub text_behind : String → List ℕ → Bool
text_behind keyword = is_text (length (ascii keyword) + 3)

-- the editions with further keywords
abbrev pub has_more : Edition → Bool
has_more Two = false
has_more Three = true

-- KEYWORD = value, which may be left out
abbrev pub further : Edition → String → Slot
further e keyword = perhaps (has_more e) (saying keyword (text_behind keyword))

abbrev pub slots : Edition → List Slot
slots e =
    one (saying "CCSDS_OEM_VERS" (λ value. same_text value (version_of e)))
    ∷ any comment_form
    ∷ further e "CLASSIFICATION"
    ∷ one (saying "CREATION_DATE" is_time)
    ∷ one (saying "ORIGINATOR" (fits "ORIGINATOR"))
    ∷ further e "MESSAGE_ID"
    ∷ one (alone "META_START")
    ∷ any comment_form
    ∷ one (saying "OBJECT_NAME" (fits "OBJECT_NAME"))
    ∷ one (saying "OBJECT_ID" (fits "OBJECT_ID"))
    ∷ one (saying "CENTER_NAME" (fits "CENTER_NAME"))
    ∷ one (saying "REF_FRAME" (fits "REF_FRAME"))
    ∷ one (saying "TIME_SYSTEM" (λ value. same_text value (ascii "TAI")))
    ∷ one (saying "START_TIME" (any_value "START_TIME"))
    ∷ one (saying "STOP_TIME" (any_value "STOP_TIME"))
    ∷ one (alone "META_STOP")
    ∷ any comment_form
    ∷ []
