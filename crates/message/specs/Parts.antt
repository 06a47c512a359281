-- For the way a message is written: its lines up to the data, in three parts. Definitions only.
use Rattle.std.specs.Prelude.{ℕ, List, [], ◌∷◌}
use Rattle.text.specs.Numbers.{ascii}
use Rattle.message.specs.declared.Edition.{Edition}
use Rattle.message.specs.Editions.{version_of}
use Rattle.message.specs.Message.{says, time_after}

unfoldable pub header_lines : Edition → List ℕ → List ℕ → List (List ℕ)
header_lines e created originator = says "CCSDS_OEM_VERS" (version_of e) ∷ says "CREATION_DATE" created ∷ says "ORIGINATOR" originator ∷ []

unfoldable pub name_lines : List ℕ → List ℕ → List ℕ → List ℕ → List (List ℕ)
name_lines object id center frame =
    ascii "META_START\n" ∷ says "OBJECT_NAME" object ∷ says "OBJECT_ID" id ∷ says "CENTER_NAME" center ∷ says "REF_FRAME" frame ∷ []

unfoldable pub time_lines : ℕ → ℕ → List (List ℕ)
time_lines first last =
    says "TIME_SYSTEM" (ascii "TAI") ∷ says "START_TIME" (time_after first) ∷ says "STOP_TIME" (time_after last) ∷ ascii "META_STOP\n" ∷ []
