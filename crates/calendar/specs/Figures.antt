-- Worked examples: texts that are times, texts that are none, and leap years.
use Rattle.std.specs.Prelude.{ℕ, Option, Some, None, Bool, true, false, refl, List, [], ◌∷◌}
use Rattle.integers.specs.Lines.{Line, line, All}
use Rattle.text.specs.Numbers.{ascii, last_digits}
use Rattle.calendar.specs.Calendar.{leap, lengths, days_of_month, sum_to, days_of_year, days_before_year, days_before_month, is_real, days_of, seconds_of}
use Rattle.calendar.specs.Text.{time_text, value_at, moment_in, same_text, time_in}

-- the first second of the calendar, the last of its first day, and the first of March in two years
abbrev times : List Line
times =
    line (Option ℕ) (time_in (ascii "0001-01-01T00:00:00")) (Some 0)
    ∷ line (Option ℕ) (time_in (ascii "0001-01-01T23:59:59")) (Some 86399)
    ∷ line (Option ℕ) (time_in (ascii "0003-03-01T00:00:00")) (Some 68169600)
    ∷ line (Option ℕ) (time_in (ascii "0004-03-01T00:00:00")) (Some 99792000)
    ∷ []

pub taken : All times
unfolding leap lengths days_of_month sum_to days_of_year days_before_year days_before_month is_real days_of seconds_of ascii last_digits time_text value_at moment_in same_text time_in
taken = (refl, (refl, (refl, (refl, tt))))

abbrev others : List Line
others =
    -- second 60, minute 60, hour 24
    line (Option ℕ) (time_in (ascii "2016-12-31T23:59:60")) None
    ∷ line (Option ℕ) (time_in (ascii "2016-12-31T23:60:00")) None
    ∷ line (Option ℕ) (time_in (ascii "2016-12-31T24:00:00")) None
    -- a day past the end of its month, which 29 February is not in 2000 but in 1900
    ∷ line (Option ℕ) (time_in (ascii "2000-02-30T00:00:00")) None
    ∷ line (Option ℕ) (time_in (ascii "1900-02-29T00:00:00")) None
    ∷ line (Option ℕ) (time_in (ascii "2024-04-31T00:00:00")) None
    -- month 13, month 0, year 0
    ∷ line (Option ℕ) (time_in (ascii "2024-13-01T00:00:00")) None
    ∷ line (Option ℕ) (time_in (ascii "2024-00-01T00:00:00")) None
    ∷ line (Option ℕ) (time_in (ascii "0000-01-01T00:00:00")) None
    -- a small t, a letter for a digit, a character too few, one too many
    ∷ line (Option ℕ) (time_in (ascii "0001-01-01t00:00:00")) None
    ∷ line (Option ℕ) (time_in (ascii "0001-01-0AT00:00:00")) None
    ∷ line (Option ℕ) (time_in (ascii "0001-01-01T00:00:0")) None
    ∷ line (Option ℕ) (time_in (ascii "0001-01-01T00:00:00Z")) None
    ∷ []

pub refused : All others
unfolding leap lengths days_of_month is_real ascii last_digits time_text value_at moment_in same_text time_in
refused = (refl, (refl, (refl, (refl, (refl, (refl, (refl, (refl, (refl, (refl, (refl, (refl, (refl, tt)))))))))))))

abbrev leaps : List Line
leaps = line Bool (leap 1900) false ∷ line Bool (leap 2000) true ∷ line Bool (leap 2023) false ∷ line Bool (leap 2024) true ∷ []

pub leap-years : All leaps
unfolding leap
leap-years = (refl, (refl, (refl, (refl, tt))))
