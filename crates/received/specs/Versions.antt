-- The version that a text names in its first line, and the edition that it is read by. Definitions only.
use Rattle.std.specs.Prelude.{ℕ, Bool, not, cond, List, [], ◌∷◌, ◌++◌, eqb, length, take, drop}
use Rattle.integers.specs.Tests.{◌and◌}
use Rattle.text.specs.Numbers.{ascii}
use Rattle.calendar.specs.Text.{same_text}
use Rattle.message.specs.declared.Edition.{Edition}
use Rattle.message.specs.declared.Edition.TheVariants.{Two, Three}
use Rattle.message.specs.Editions.{version_of}
use Rattle.received.specs.Lines.{newline}

abbrev pub version_front : List ℕ
version_front = ascii "CCSDS_OEM_VERS" ++ ascii " = "

-- what stands before the first newline, or all where there is none
unfoldable pub up_to_newline : List ℕ → List ℕ
up_to_newline [] = []
up_to_newline (b ∷ text) = cond (eqb b newline) [] (b ∷ up_to_newline text)

-- a version line stands first, and what it names
unfoldable pub has_version : List ℕ → Bool
has_version text = same_text (take (length version_front) text) version_front

unfoldable pub named_in : List ℕ → List ℕ
named_in text = up_to_newline (drop (length version_front) text)

-- it names another version than an edition's: 17
unfoldable pub is_other : Edition → List ℕ → Bool
is_other e text = has_version text and not (same_text (named_in text) (version_of e))

-- the edition that the version line chooses; a text that names neither version is another's than this one's too
unfoldable pub edition_in : List ℕ → Edition
edition_in text = cond (is_other Two text) Three Two
