-- What is listed of a mending: the words of its changes in a room are its list, and where it cannot be mended the number is.
use Rattle.std.specs.Prelude.{◌≡◌, refl, List, ◌++◌, ℕ, length}
use Rattle.std.proofs.Common.{ap}
use Rattle.received.specs.Mending.{Change, Mends, Cannot, words}
use Rattle.reports.specs.Reports.{changes_text, list_of, list_by}
use Rattle.reports.specs.Rooms.{changes-back}

pub as-listed : (lines : List (List ℕ)) (changes : List Change) (rest : List ℕ) → list_of 0 (words changes ++ rest) (length changes) ≡ list_by (Mends lines changes)
unfolding list_of list_by
as-listed lines changes rest = ap changes_text (changes-back changes rest)

pub as-refused : (list : List ℕ) (count : ℕ) → list_of 16 list count ≡ list_by Cannot
unfolding list_of list_by
as-refused list count = refl
