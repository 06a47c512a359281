-- A damaged message mended: the lines that come out, and the changes by the number of their line. Definitions only.
use Rattle.std.specs.Prelude.{ℕ, suc, true, false, cond, set}
use mathlib.Core.List.{List, [], ◌∷◌, ◌++◌, flatten, map}
use Rattle.calendar.specs.Text.{same_text}
use Rattle.message.specs.declared.Edition.{Edition}
use Rattle.message.specs.Message.{says, time_after}
use Rattle.received.specs.Lines.{lines_in}
use Rattle.received.specs.Slots.{Walked, Through, Stopped, walk}
use Rattle.received.specs.Profile.{slots}
use Rattle.received.specs.Data.{datum_in, point_in, accepts, kept_of, first_seconds, last_seconds}
use Rattle.received.specs.Reading.{start_slot, stop_slot, data_slot, rest_at, number_at}

-- ---- changes

pub record Change : Type 0 where
  pub line : ℕ
  pub what : ℕ

abbrev dropped : ℕ
dropped = 1

abbrev start_time : ℕ
start_time = 2

abbrev stop_time : ℕ
stop_time = 3

abbrev pub change : ℕ → ℕ → Change
change line what = record { line = line; what = what }

-- the data lines that are dropped, the first of all being line `number`
unfoldable pub drops_from : ℕ → ℕ → List (List ℕ) → List Change
drops_from number earliest [] = []
drops_from number earliest (line ∷ lines) =
    elim (accepts earliest (datum_in line)) as (λ _. List Change) [
      | true ↦ drops_from (suc number) (suc (datum_in line).seconds) lines
      | false ↦ change number dropped ∷ drops_from (suc number) earliest lines
    ]

-- a time that is not yet the one that it has to be
unfoldable pub time_change : List (List (List ℕ)) → ℕ → ℕ → ℕ → List Change
time_change groups slot what seconds = cond (same_text (rest_at groups slot) (time_after seconds)) [] (change (number_at groups slot) what ∷ [])

-- ---- the lines that come out: those before the data as they stood but for the two times, and the data lines kept as they stood

abbrev pub with_times : List (List (List ℕ)) → ℕ → ℕ → List (List (List ℕ))
with_times groups first last =
    set (set groups start_slot (says "START_TIME" (time_after first) ∷ [])) stop_slot (says "STOP_TIME" (time_after last) ∷ [])

-- lines and changes, or it cannot be mended
pub data Mend : Type 0 where
  Mends : List (List ℕ) → List Change → Mend
  Cannot : Mend

unfoldable pub mend_with : List (List (List ℕ)) → List (List ℕ) → List (List ℕ) → Mend
mend_with groups rest [] = Cannot
mend_with groups rest (line ∷ lines) =
    let points = map point_in (line ∷ lines) in
    Mends
    (flatten (with_times groups (first_seconds points) (last_seconds points)) ++ (line ∷ lines))
    (time_change groups start_slot start_time (first_seconds points)
    ++ (time_change groups stop_slot stop_time (last_seconds points)
    ++ drops_from (number_at groups data_slot) 0 rest))

unfoldable pub mend_by : Walked → Mend
mend_by (Stopped lines) = Cannot
mend_by (Through groups rest) = mend_with groups rest (kept_of 0 rest)

unfoldable pub mend_of : Edition → List ℕ → Mend
mend_of e text = mend_by (walk (slots e) (lines_in text))

-- a change is two words of the list
abbrev pub words : List Change → List ℕ
words changes = flatten (map (λ c. c.line ∷ c.what ∷ []) changes)
