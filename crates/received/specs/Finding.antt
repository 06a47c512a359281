-- For the way a text is read: where a walk over slots ends, what is known of the data lines, and what is known of the whole text. Definitions only.
use Rattle.std.specs.Prelude.{ℕ, ◌+◌, ◌≤◌, Bool, true, false, cond, length, take, Result, Ok, Err}
use mathlib.Core.List.{List, [], flatten}
use Rattle.message.specs.declared.Edition.{Edition}
use Rattle.received.specs.declared.forms.Kind.{Kind}
use Rattle.received.specs.declared.forms.Kind.TheVariants.{One, Perhaps, Any}
use Rattle.received.specs.declared.heads.Spot.{Spot}
use Rattle.received.specs.declared.data.Scanned.{Scanned}
use Rattle.received.specs.declared.judging.Judged.{Judged}
use Rattle.received.specs.Lines.{lines_in}
use Rattle.received.specs.Slots.{Slot, one, perhaps, any, Walked, Through, Stopped, walk}
use Rattle.received.specs.Profile.{slots}
use Rattle.received.specs.Data.{Point, points_in, first_seconds, last_seconds}
use Rattle.received.specs.Reading.{all_read, Read, Reads, Stops}

-- ---- the kinds of slots

abbrev pub is_one : Slot → Bool
is_one (one f) = true
is_one (perhaps may f) = false
is_one (any f) = false

abbrev pub kind_of : Slot → Kind
kind_of (one f) = One
kind_of (perhaps may f) = Perhaps
kind_of (any f) = Any

-- ---- places

abbrev pub bytes_of : List (List ℕ) → ℕ
bytes_of lines = length (flatten lines)

-- behind lines that were passed from a place and a number on
abbrev pub spot : ℕ → ℕ → List (List ℕ) → Spot
spot at line lines = record { at = at + bytes_of lines; line = line + length lines }

-- where a walk ends that begins at a place, with a line of that number; or the number of the line at which it stops
unfoldable pub spot_from : ℕ → ℕ → Walked → Result Spot ℕ
spot_from at line (Through groups rest) = Ok (spot at line (flatten groups))
spot_from at line (Stopped lines) = Err (line + length lines)

-- a place in a text, and a number that a line there may have
pub record Inside (text : List ℕ) (s : Spot) : Type 0 where
  pub within : s.at ≤ length text
  pub few : s.line ≤ s.at + 1

-- ---- the head

abbrev pub groups_of : Walked → List (List (List ℕ))
groups_of (Through groups rest) = groups
groups_of (Stopped lines) = []

abbrev pub is_through : Walked → Bool
is_through (Through groups rest) = true
is_through (Stopped lines) = false

-- where slot k begins
abbrev pub begin_at : List (List (List ℕ)) → ℕ → Spot
begin_at groups k = spot 0 1 (flatten (take k groups))

abbrev pub walk_over : Edition → List ℕ → Walked
walk_over e text = walk (slots e) (lines_in text)

-- ---- the data: some lines, all of which can be read; or how many come before one that cannot

unfoldable pub scanned_by : List Point → List (List ℕ) → Result Scanned ℕ
scanned_by points lines =
    cond (all_read points lines)
    (Ok (record { count = length points; first = first_seconds points; last = last_seconds points }))
    (Err (length points))

abbrev pub scanned_of : List (List ℕ) → Result Scanned ℕ
scanned_of lines = scanned_by (points_in 0 lines) lines

-- ---- the whole: the place of the data and the count of points, or the line at which reading stops

unfoldable pub judged_by : Read → Result Judged ℕ
judged_by (Reads groups points) = Ok (record { at = bytes_of (flatten groups); count = length points })
judged_by (Stops n) = Err n
