-- A data line: a time, six numbers, and a newline; the point that a line says; and lines one after another. Definitions only.
use Rattle.std.specs.Prelude.{◌≡◌, ◌≤◌, Option, Some, None, is_some, unwrap_or, ℕ, zero, suc, ◌+◌, Bool, true, false, cond, leb, ltb, eqb, ℤ, pos, take, drop, get_or}
use mathlib.Core.List.{List, [], ◌∷◌, ◌++◌, flatten}
use Rattle.integers.specs.Tests.{◌and◌}
use Rattle.text.specs.Numbers.{ascii}
use Rattle.calendar.specs.Text.{same_text, time_in}
use Rattle.calendar.specs.Calendar.{most_seconds}
use Rattle.decimal.specs.Text.{fixed_text, few_digits}
use Rattle.decimal.specs.Reading.{fixed_at}
use Rattle.message.specs.Message.{time_after, texts}
use Rattle.received.specs.declared.data.Datum.{Datum}

-- seconds since 0001-01-01T00:00:00, and x, y, z in 10^-6 kilometres and vx, vy, vz in 10^-9 kilometres per second
pub record Point : Type 0 where
  pub seconds : ℕ
  pub values : List ℤ

-- ---- its text

-- x, y, z have six decimals, and vx, vy, vz nine
abbrev pub decimals_of : ℕ → ℕ
decimals_of k = cond (ltb k 3) 6 9

-- value k, after a space
unfoldable pub field_of : List ℤ → ℕ → List ℕ
field_of values k = ascii " " ++ fixed_text (decimals_of k) (get_or values k (pos 0))

unfoldable pub data_line : ℕ → List ℤ → List ℕ
data_line seconds values = flatten (time_after seconds ∷ texts (field_of values) 6 ∷ ascii "\n" ∷ [])

abbrev pub line_of : Point → List ℕ
line_of p = data_line p.seconds p.values

-- ---- the point that a line says

-- a number, or 0 where there is none; and the place past it, or 0
abbrev pub value_of : Option (ℤ × ℕ) → ℤ
value_of None = pos 0
value_of (Some (n, end)) = n

abbrev pub end_of : Option (ℤ × ℕ) → ℕ
end_of None = 0
end_of (Some (n, end)) = end

-- a number of at most 16 digits, and the place past it
unfoldable pub field_by : ℕ → Option (ℤ × ℕ) → Option (ℤ × ℕ)
field_by decimals (Some (n, end)) = cond (few_digits decimals n) (Some (n, end)) None
field_by decimals None = None

-- the number after a space at a place, and the place past it; there is none at place 0
unfoldable pub field_at : ℕ → List ℕ → ℕ → Option (ℤ × ℕ)
field_at decimals line zero = None
field_at decimals line (suc k) = cond (eqb (get_or line (suc k) 0) 32) (field_by decimals (fixed_at decimals line (suc k + 1))) None

-- where field k begins: the first stands behind the time
unfoldable pub field_start : List ℕ → ℕ → ℕ
field_start line zero = 19
field_start line (suc k) = end_of (field_at (decimals_of k) line (field_start line k))

unfoldable pub value_in : List ℕ → ℕ → ℤ
value_in line k = value_of (field_at (decimals_of k) line (field_start line k))

-- f 0, .., f (n - 1)
unfoldable pub first_ones : (ℕ → ℤ) → ℕ → List ℤ
first_ones f zero = []
first_ones f (suc n) = first_ones f n ++ (f n ∷ [])

-- whether a line can be read as a data line, and what it says
pub record Said : Type 0 where
  pub good : Bool
  pub seconds : ℕ
  pub values : List ℤ

-- a time stands first, and behind the six fields there is a newline and nothing more
abbrev pub datum_by : Option ℕ → Bool → List ℤ → Said
datum_by time ended values = record { good = is_some time and ended; seconds = unwrap_or time 0; values = values }

unfoldable pub datum_in : List ℕ → Said
datum_in line = datum_by (time_in (take 19 line)) (same_text (drop (field_start line 6) line) (ascii "\n")) (first_ones (value_in line) 6)

abbrev pub point_in : List ℕ → Point
point_in line = record { seconds = (datum_in line).seconds; values = (datum_in line).values }

-- ---- lines one after another: each can be read, and its time is not before an earliest one, which is a second after the line before it

abbrev pub accepts : ℕ → Said → Bool
accepts earliest d = d.good and leb earliest d.seconds

-- the points of the lines up to the first that is not accepted
unfoldable pub points_in : ℕ → List (List ℕ) → List Point
points_in earliest [] = []
points_in earliest (line ∷ lines) =
    elim (accepts earliest (datum_in line)) as (λ _. List Point) [ true ↦ point_in line ∷ points_in (suc (datum_in line).seconds) lines | false ↦ [] ]

-- the lines that are accepted, the others being dropped
unfoldable pub kept_of : ℕ → List (List ℕ) → List (List ℕ)
kept_of earliest [] = []
kept_of earliest (line ∷ lines) =
    elim (accepts earliest (datum_in line)) as (λ _. List (List ℕ))
    [ true ↦ line ∷ kept_of (suc (datum_in line).seconds) lines | false ↦ kept_of earliest lines ]

-- the times of the first and the last of some points
abbrev pub first_seconds : List Point → ℕ
first_seconds [] = 0
first_seconds (p ∷ points) = p.seconds

unfoldable pub last_from : ℕ → List Point → ℕ
last_from n [] = n
last_from n (p ∷ points) = last_from p.seconds points

abbrev pub last_seconds : List Point → ℕ
last_seconds points = last_from 0 points

-- what is known of a line that was read
pub record IsDatum (line : List ℕ) (d : Datum) : Type 0 where
  pub good : (datum_in line).good ≡ true
  pub seconds-are : d.seconds ≡ (datum_in line).seconds
  pub values-are : d.values ≡ (datum_in line).values
  pub in_time : d.seconds ≤ most_seconds

abbrev pub AllGood : List (List ℕ) → Type 0
AllGood [] = Unit {0}
AllGood (line ∷ lines) = ((datum_in line).good ≡ true) × AllGood lines
