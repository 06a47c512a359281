-- The points of a request: lines that are `point` and twelve wholes, each after one space. Definitions only.
use Rattle.std.specs.Prelude.{ℕ, zero, suc, ◌/◌, cond, List, [], ◌∷◌, ◌++◌, ltb, ℤ, length, drop, Option, Some, None, Result, Ok, Err}
use Rattle.text.specs.Numbers.{ascii}
use Rattle.text.specs.Reading.{signed_at}
use Rattle.message_request.specs.declared.Unread.{Unread}
use Rattle.message_request.specs.declared.Unread.TheVariants.{Line, Full}
use Rattle.message_request.specs.Lines.{◌>>=◌, past_word, line_number}

-- ---- numbers, and the place past them

-- after one space
unfoldable pub whole_at : List ℕ → ℕ → Option (ℤ × ℕ)
whole_at text at = do
  from ← past_word text at (ascii " ")
  signed_at text from

-- so many
unfoldable pub wholes_in : ℕ → List ℕ → ℕ → Option (List ℤ × ℕ)
wholes_in zero text at = Some ([], at)
wholes_in (suc k) text at = do
  (value, next) ← whole_at text at
  (values, end) ← wholes_in k text next
  Some (value ∷ values, end)

unfoldable pub wholes_at : List ℕ → ℕ → Option (List ℤ × ℕ)
wholes_at text at = wholes_in 12 text at

-- ---- a point at a place, with the place past its line

unfoldable pub point_at : List ℕ → ℕ → Option (List ℤ × ℕ)
point_at text at = do
  from ← past_word text at (ascii "point")
  (values, end) ← wholes_at text from
  next ← past_word text end (ascii "\n")
  Some (values, next)

-- ---- the points from a place on, as far as there is room

-- the numbers that are kept, and why the reading ends before the text
pub record Kept : Type 0 where
  pub numbers : List ℤ
  pub unread : Option Unread

abbrev pub nothing : Option Unread → Kept
nothing unread = record { numbers = []; unread = unread }

-- the text is over, or its next line is no point, or it goes on with `more`
unfoldable pub going_on : List ℕ → ℕ → (List ℤ → ℕ → Kept) → Kept
going_on text at more = cond (ltb at (length text)) (by (point_at text at)) (nothing None)
  where
    by : Option (List ℤ × ℕ) → Kept
    by None = nothing (Some (Line (line_number text at)))
    by (Some (values, next)) = more values next

-- where there is room for so many points
unfoldable pub kept_from : ℕ → List ℕ → ℕ → Kept
kept_from zero text at = going_on text at (λ values next. nothing (Some Full))
kept_from (suc most) text at =
    going_on text at (λ values next.
    let more = kept_from most text next in
    record { numbers = values ++ more.numbers; unread = more.unread })

-- past lines that are as they have to be, where so many numbers can be kept
unfoldable pub kept_at : List ℕ → Result ℕ ℕ → ℕ → Kept
kept_at text (Ok at) room = kept_from (room / 12) text at
kept_at text (Err at) room = nothing (Some (Line (line_number text at)))

-- how many numbers are kept, and why the reading ends before the text
abbrev pub points_of : Kept → ℕ × Option Unread
points_of kept = (length kept.numbers, kept.unread)

-- the room afterwards: the numbers that are kept, and behind them what was there
abbrev pub over : Kept → List ℤ → List ℤ
over kept room = kept.numbers ++ drop (length kept.numbers) room
