-- What `oem mend` writes to standard output and to standard error, with rooms of so many bytes and so many words. Definitions only.
use Rattle.std.specs.Prelude.{ℕ, cond}
use mathlib.Core.List.{List, [], flatten}
use Rattle.message.specs.declared.Edition.{Edition}
use Rattle.received.specs.Versions.{is_other}
use Rattle.received.specs.Mending.{Mend, Mends, Cannot, mend_of}
use Rattle.received.specs.MendAnswer.{has_rooms}
use Rattle.reports.specs.Reports.{changes_text, refused_line}

-- the mended message, or nothing
abbrev pub text_by : Mend → ℕ → ℕ → List ℕ
text_by Cannot out changes = []
text_by (Mends lines list) out changes = cond (has_rooms lines list out changes) (flatten lines) []

-- the changes, or the number that refuses
abbrev pub list_by : Mend → ℕ → ℕ → List ℕ
list_by Cannot out changes = flatten (refused_line 16)
list_by (Mends lines list) out changes = cond (has_rooms lines list out changes) (changes_text list) (flatten (refused_line 12))

-- ---- by the mending of an edition: 17 first

unfoldable pub mended_text : Edition → List ℕ → ℕ → ℕ → List ℕ
mended_text e text out changes = cond (is_other e text) [] (text_by (mend_of e text) out changes)

unfoldable pub list_text : Edition → List ℕ → ℕ → ℕ → List ℕ
list_text e text out changes = cond (is_other e text) (flatten (refused_line 17)) (list_by (mend_of e text) out changes)
