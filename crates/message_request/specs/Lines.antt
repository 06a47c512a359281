-- A line of a request: a word, and what follows it. Places are counted from 0; what may not be there is `None`. Definitions only.
use Rattle.std.specs.Prelude.{ℕ, ◌+◌, Bool, cond, List, eqb, length, take, drop, count_by, position, unwrap_or, Option, Some, None, Result, option_and_then, Ok, Err}
use Rattle.std.specs.List.{starts_with}
use Rattle.text.specs.Numbers.{ascii}
use Rattle.text.specs.Reading.{decimal_at}
use Rattle.message_request.specs.declared.Rest.{Rest}

-- what is read after something that may not be there
infixl 10 ◌>>=◌
abbrev pub ◌>>=◌ : {A B : Type 0} → Option A → (A → Option B) → Option B
o >>= f = option_and_then f o

-- ---- words and ends of lines

abbrev pub is_newline : ℕ → Bool
is_newline b = eqb b 10

-- the place past a word that stands at a place
unfoldable pub past_word : List ℕ → ℕ → List ℕ → Option ℕ
past_word text at word = cond (starts_with eqb (drop at text) word) (Some (at + length word)) None

-- the place of the first newline from a place on; where there is none, the end of the text
unfoldable pub line_end : List ℕ → ℕ → ℕ
line_end text from = from + unwrap_or (position is_newline (drop from text)) (length (drop from text))

-- the number of the line at a place: one more than the newlines before it
unfoldable pub line_number : List ℕ → ℕ → ℕ
line_number text at = 1 + count_by is_newline (take at text)

-- ---- a line that has to stand at a place: `Ok` the place past lines that are as they have to be, `Err` the place of a line that is not

-- the place past the word that the line begins with; no line is read at a fault
unfoldable pub begun : List ℕ → Result ℕ ℕ → List ℕ → Option ℕ
begun text (Ok at) word = past_word text at word
begun text (Err at) word = None

-- the same place, at fault
abbrev pub stopped_at : Result ℕ ℕ → Result ℕ ℕ
stopped_at (Ok at) = Err at
stopped_at (Err at) = Err at

-- a word and the rest as it stands, up to the newline
unfoldable pub rest_line : List ℕ → Result ℕ ℕ → List ℕ → Option Rest
rest_line text place word = do
  from ← begun text place word
  next ← past_word text (line_end text from) (ascii "\n")
  Some (record { from = from; end = line_end text from; next = Ok next })

abbrev pub no_rest : Result ℕ ℕ → Rest
no_rest place = record { from = 0; end = 0; next = stopped_at place }

unfoldable pub rest_in : List ℕ → Result ℕ ℕ → List ℕ → Rest
rest_in text place word = unwrap_or (rest_line text place word) (no_rest place)

-- a word and a natural, which the newline follows; and where the next line stands
unfoldable pub natural_line : List ℕ → Result ℕ ℕ → List ℕ → Option (ℕ × Result ℕ ℕ)
natural_line text place word = do
  from ← begun text place word
  (value, end) ← decimal_at text from
  next ← past_word text end (ascii "\n")
  Some (value, Ok next)

unfoldable pub natural_in : List ℕ → Result ℕ ℕ → List ℕ → ℕ × Result ℕ ℕ
natural_in text place word = unwrap_or (natural_line text place word) (0, stopped_at place)
