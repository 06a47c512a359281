-- What mending answers, and what the lent rooms hold then. Definitions only.
use Rattle.std.specs.Prelude.{ℕ, Bool, cond, leb, length, drop}
use mathlib.Core.List.{List, ◌++◌, flatten}
use Rattle.integers.specs.Tests.{◌and◌}
use Rattle.message.specs.declared.Edition.{Edition}
use Rattle.received.specs.declared.Mended.{Mended}
use Rattle.received.specs.Versions.{is_other}
use Rattle.received.specs.Mending.{Change, Mend, Mends, Cannot, mend_of, words}

-- a refusal: 17, 16 or 12
abbrev pub unmended : ℕ → Mended
unmended number = record { number = number; length = 0; changes = 0 }

-- room for the text and for the list, tested together
unfoldable pub has_rooms : List (List ℕ) → List Change → ℕ → ℕ → Bool
has_rooms lines list out changes = leb (length (flatten lines)) out and leb (length (words list)) changes

-- ---- by what mending gives: 16, then 12; a refusal writes nothing, and what stands behind the text and the list stays

abbrev pub mended_by : Mend → List ℕ → List ℕ → Mended
mended_by Cannot out changes = unmended 16
mended_by (Mends lines list) out changes =
    cond (has_rooms lines list (length out) (length changes)) (record { number = 0; length = length (flatten lines); changes = length list }) (unmended 12)

abbrev pub out_by : Mend → List ℕ → List ℕ → List ℕ
out_by Cannot out changes = out
out_by (Mends lines list) out changes =
    cond (has_rooms lines list (length out) (length changes)) (flatten lines ++ drop (length (flatten lines)) out) out

abbrev pub changes_by : Mend → List ℕ → List ℕ → List ℕ
changes_by Cannot out changes = changes
changes_by (Mends lines list) out changes =
    cond (has_rooms lines list (length out) (length changes)) (words list ++ drop (length (words list)) changes) changes

-- ---- by the mending of an edition: 17 first

unfoldable pub mended_to : Edition → List ℕ → List ℕ → List ℕ → Mended
mended_to e text out changes = cond (is_other e text) (unmended 17) (mended_by (mend_of e text) out changes)

unfoldable pub out_after : Edition → List ℕ → List ℕ → List ℕ → List ℕ
out_after e text out changes = cond (is_other e text) out (out_by (mend_of e text) out changes)

unfoldable pub changes_after : Edition → List ℕ → List ℕ → List ℕ → List ℕ
changes_after e text out changes = cond (is_other e text) changes (changes_by (mend_of e text) out changes)
