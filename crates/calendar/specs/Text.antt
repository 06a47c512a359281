-- The text YYYY-MM-DDThh:mm:ss of a moment, and the time that a text is. Definitions only.
use Rattle.std.specs.Prelude.{Option, Some, None, ℕ, zero, suc, ◌+◌, ◌-◌, ◌*◌, Bool, true, false, cond, List, [], ◌∷◌, ◌++◌, eqb, get_or}
use Rattle.integers.specs.Tests.{◌and◌}
use Rattle.text.specs.Numbers.{ascii, digit, last_digits}
use Rattle.calendar.specs.declared.Moment.{Moment}
use Rattle.calendar.specs.Calendar.{is_real, seconds_of}

unfoldable pub time_text : Moment → List ℕ
time_text m =
    last_digits 4 m.year ++ ascii "-" ++ last_digits 2 m.month ++ ascii "-" ++ last_digits 2 m.day
    ++ ascii "T"
    ++ last_digits 2 m.hour ++ ascii ":" ++ last_digits 2 m.minute ++ ascii ":" ++ last_digits 2 m.second

-- ---- reading

-- the number that the k characters from a place on are, if all are digits
unfoldable pub value_at : List ℕ → ℕ → ℕ → ℕ
value_at s at zero = 0
value_at s at (suc k) = value_at s at k * 10 + (get_or s (at + k) 0 - digit 0)

-- the numbers at the places of a text's year, month, day, hour, minute and second
unfoldable pub moment_in : List ℕ → Moment
moment_in s = record {
  year = value_at s 0 4;
  month = value_at s 5 2;
  day = value_at s 8 2;
  hour = value_at s 11 2;
  minute = value_at s 14 2;
  second = value_at s 17 2;
}

unfoldable pub same_text : List ℕ → List ℕ → Bool
same_text [] [] = true
same_text [] (b ∷ t) = false
same_text (a ∷ s) [] = false
same_text (a ∷ s) (b ∷ t) = eqb a b and same_text s t

-- a text is a time if its numbers are a real moment and it is just that moment's text
unfoldable pub time_in : List ℕ → Option ℕ
time_in s = cond (is_real (moment_in s) and same_text s (time_text (moment_in s))) (Some (seconds_of (moment_in s))) None
